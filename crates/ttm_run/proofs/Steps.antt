-- Four parts of a filling, up to the first that is refused.
use Rattle.std.proofs.Common.{◌≡◌, ℕ, List, [], ◌∷◌, ◌++◌, length, Some, None, Option, refl, ap, ◌∙◌, subst}
use Rattle.refusal.specs.Outcome.{kept_or}
use Rattle.refusal.specs.declared.Refusal.{Refusal}
use Rattle.library.specs.Meaning.{Program, Library}
use Rattle.library.specs.Operations.{Operation, refusal_of, done}
use Rattle.std.specs.Option.{option_or}
use Rattle.exchange.specs.Stopping.{ComesTo}
use Rattle.std.specs.List.{between}
use Rattle.exchange.specs.Copying.{stores}
use Rattle.exchange.proofs.Stopping.{on, off}

-- one operation
pub one : (l m : Library) (o : Operation) (r : Option Refusal) → r ≡ refusal_of l o → m ≡ kept_or r (done l o) l → ComesTo l (o ∷ []) r m
one l m o r answer left = record { refusal = answer ∙ go (refusal_of l o); left = left ∙ ap (λ (a : Option Refusal). kept_or a (done l o) l) answer }
  where
    go : (a : Option Refusal) → a ≡ option_or a None
    go None = refl
    go (Some r) = refl

-- the programs from the middle on, of which the number was asked
pub to_the_end : (l m : Library) (middle end : ℕ) (ps : List Program) (r : Option Refusal) → end ≡ length ps → ComesTo l (stores (between middle end ps)) r m → ComesTo l (stores (between middle (length ps) ps)) r m
to_the_end l m middle end ps r is told = let P : ℕ → Type 0 = λ n. ComesTo l (stores (between middle n ps)) r m in subst P is told

-- the first part is refused, or the second, or the third, or all of them are done
pub first_off : (l m : Library) (a b c d : List Operation) (r : Refusal) → ComesTo l a (Some r) m → ComesTo l (a ++ b ++ c ++ d) (Some r) m
first_off l m a b c d r e = off l m (a ++ b ++ c) d r (off l m (a ++ b) c r (off l m a b r e))

pub second_off : (l m n : Library) (a b c d : List Operation) (r : Refusal) → ComesTo l a None m → ComesTo m b (Some r) n → ComesTo l (a ++ b ++ c ++ d) (Some r) n
second_off l m n a b c d r e f = off l n (a ++ b ++ c) d r (off l n (a ++ b) c r (on l m n a b (Some r) e f))

pub third_off : (l m n o : Library) (a b c d : List Operation) (r : Refusal) → ComesTo l a None m → ComesTo m b None n → ComesTo n c (Some r) o → ComesTo l (a ++ b ++ c ++ d) (Some r) o
third_off l m n o a b c d r e f h = off l o (a ++ b ++ c) d r (on l n o (a ++ b) c (Some r) (on l m n a b None e f) h)

pub all_on : (l m n o p : Library) (a b c d : List Operation) (r : Option Refusal) → ComesTo l a None m → ComesTo m b None n → ComesTo n c None o → ComesTo o d r p → ComesTo l (a ++ b ++ c ++ d) r p
all_on l m n o p a b c d r e f h k = on l o p (a ++ b ++ c) d r (on l n o (a ++ b) c None (on l m n a b None e f) h) k
