-- The programs of a library as stores in another, one by one.
use Rattle.std.proofs.Common.{◌≡◌, ℕ, zero, suc, ◌+◌, ◌-◌, ◌<◌, ◌≤◌, Bool, true, false, cond, Ok, Err, List, [], ◌∷◌, ◌++◌, take, drop, Some, None, Option, sym, refl, ap, ◌∙◌, append_assoc, add-one, subst, arith}
use Rattle.std.proofs.lemmas.List.{append-nil}
use Rattle.std.proofs.lemmas.Bool.Decides.{nat_tests}
use Rattle.refusal.specs.Outcome.{kept_or}
use Rattle.refusal.specs.declared.Refusal.{Refusal}
use Rattle.library.specs.Meaning.{Program, Library, Lawful, NameLength, name_at, program_at}
use Rattle.library.specs.Keeping.{store_refusal, with_program}
use Rattle.library.specs.Name.{fits_name}
use Rattle.std.specs.Option.{option_or}
use Rattle.exchange.specs.Stopping.{first_refusal, until_refused, ComesTo}
use Rattle.std.specs.List.{between}
use Rattle.exchange.specs.Copying.{stores, store_of, StoredInOrder}
use Rattle.exchange.proofs.Stopping.{Alike, alike_on, alike_off, alike_end}

-- the name of a program of a library can be a program's name ..
pub unfit : {N E X : Type 0} (ps : List Program) (k : ℕ) (n : List ℕ) (made : N) (e refusal : E) → Lawful ps → Some n ≡ name_at ps k → Err e ≡ cond (fits_name n) (Ok made) (Err refusal) → X
unfit ps k n made e refusal lawful named is =
    let fit : fits_name n ≡ true = go n (lawful.fit k n (sym named)) in
    absurd (never (fits_name n) made e refusal fit is)
  where
    go : (n : List ℕ) → NameLength n → fits_name n ≡ true
    go n long = grind (arith, nat_tests)

    never : {N E : Type 0} (b : Bool) (made : N) (e refusal : E) → b ≡ true → Err e ≡ cond b (Ok made) (Err refusal) → ⊥
    never true made e refusal fit is = cc
    never false made e refusal fit is = cc

-- .. and is the name made of it
pub fit : {N E : Type 0} (b : Bool) (made name : N) (refusal : E) → Ok made ≡ cond b (Ok name) (Err refusal) → made ≡ name
fit true made name refusal is = cc
fit false made name refusal is = cc

-- that program stored, by its name and its strings
pub stored_one : (l m : Library) (o : Option Program) (p : Program) (n : List ℕ) (r : Option Refusal) → n ≡ p.name → Some p ≡ o → r ≡ store_refusal l (record { name = n; strings = p.strings }) → m ≡ kept_or r (with_program l (record { name = n; strings = p.strings })) l → ComesTo l (store_of o) r m
stored_one l m o p n r same is refused after =
    let refusal : r ≡ store_refusal l p = refused ∙ ap (λ (x : List ℕ). store_refusal l (record { name = x; strings = p.strings })) same in
    subst (λ (x : Option Program). ComesTo l (store_of x) r m) is
    (record {
      refusal = refusal ∙ alone (store_refusal l p);
      left = after ∙ ap (λ (x : Option Refusal). kept_or x (with_program l (record { name = n; strings = p.strings })) l) refusal
          ∙ ap (λ (x : List ℕ). kept_or (store_refusal l p) (with_program l (record { name = x; strings = p.strings })) l) same;
    })
  where
    alone : (a : Option Refusal) → a ≡ option_or a None
    alone None = refl
    alone (Some x) = refl

-- the first of the programs, and those after it
stores_more : (p end : ℕ) (ps : List Program) → p < end → stores (between p end ps) ≡ store_of (program_at ps p) ++ stores (between (p + 1) end ps)
stores_more p end ps h =
    let n = end - (p + 1) in
    let long : end - p ≡ suc n = omega arith in
    ap (λ (k : ℕ). stores (take k (drop p ps))) long
    ∙ go n p ps
    ∙ ap (λ (k : ℕ). store_of (program_at ps p) ++ stores (take n (drop k ps))) (sym (add-one p))
  where
    none : (n : ℕ) → [] ≡ stores (take n [])
    none zero = refl
    none (suc n) = refl

    go : (n p : ℕ) (ps : List Program) → stores (take (suc n) (drop p ps)) ≡ store_of (program_at ps p) ++ stores (take n (drop (suc p) ps))
    go n zero [] = none n
    go n (suc p) [] = none n
    go n zero (q ∷ ps) = refl
    go n (suc p) (q ∷ ps) = go n p ps

-- past the end there are none
stores_end : (p end : ℕ) (ps : List Program) → end ≤ p → stores (between p end ps) ≡ []
stores_end p end ps h = let none : end - p ≡ 0 = omega arith in ap (λ (k : ℕ). stores (take k (drop p ps))) none

-- those from p on are still to do: p was stored, or refused, or there are no more
abbrev pub ToDo : Library → Library → ℕ → ℕ → ℕ → List Program → Type 0
ToDo start here first p end ps = Alike here (stores (between p end ps)) start (stores (between first end ps))

pub turn_on : (start l m : Library) (first p end : ℕ) (ps : List Program) → p < end → ComesTo l (store_of (program_at ps p)) None m → ToDo start l first p end ps → ToDo start m first (p + 1) end ps
turn_on start l m first p end ps h = alike_on l m start _ _ _ _ (stores_more p end ps h)

pub turn_off : (start l m : Library) (first p end : ℕ) (ps : List Program) (r : Refusal) → p < end → ComesTo l (store_of (program_at ps p)) (Some r) m → ToDo start l first p end ps → ComesTo start (stores (between first end ps)) (Some r) m
turn_off start l m first p end ps r h = alike_off l m start _ _ _ _ r (stores_more p end ps h)

pub turns_end : (start l : Library) (first p end : ℕ) (ps : List Program) → end ≤ p → ToDo start l first p end ps → ComesTo start (stores (between first end ps)) None l
turns_end start l first p end ps h = alike_end l start _ _ (stores_end p end ps h)

pub stored_in_order : StoredInOrder
stored_in_order l [] e = sym (append-nil l.programs)
stored_in_order l (p ∷ ps) e = go (store_refusal l p) (stored_in_order (with_program l p) ps) e
  where
    go : (a : Option Refusal) → (first_refusal (with_program l p) (stores ps) ≡ None → (until_refused (with_program l p) (stores ps)).programs ≡ (l.programs ++ p ∷ []) ++ ps) → option_or a (first_refusal (with_program l p) (stores ps)) ≡ None → (kept_or a (until_refused (with_program l p) (stores ps)) l).programs ≡ l.programs ++ p ∷ ps
    go None rest e = rest e ∙ append_assoc l.programs (p ∷ []) ps
    go (Some r) rest e = cc
