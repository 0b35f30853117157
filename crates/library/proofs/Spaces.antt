-- Sums and differences of spaces.
use Rattle.std.proofs.Common.{◌≡◌, ℕ, ◌≤◌, true, arith}
use Rattle.std.proofs.lemmas.Bool.{and_parts, leb-true}
use Rattle.library.specs.declared.space.Space.{Space}
use Rattle.library.specs.Keeping.{plus, minus, fits}

same_space : (s t : Space) → s.programs ≡ t.programs → s.strings ≡ t.strings → s.bytes ≡ t.bytes → s ≡ t
same_space s t = go s.programs t.programs s.strings t.strings s.bytes t.bytes
  where
    go : (a x b y c z : ℕ) → a ≡ x → b ≡ y → c ≡ z → ◌≡◌ {A = Space} (record { programs = a; strings = b; bytes = c }) (record { programs = x; strings = y; bytes = z })
    go a x b y c z e f h = cc

-- what fits is no more than what is left, part by part
parts : (a s : Space) → fits a s ≡ true → (a.programs ≤ s.programs) × (a.strings ≤ s.strings) × (a.bytes ≤ s.bytes)
parts a s e =
    let f = and_parts _ _ e in
    let h = and_parts _ _ f.0 in
    (leb-true _ _ h.0, leb-true _ _ h.1, leb-true _ _ f.1)

-- the space that was taken is returned
pub returned : (s a : Space) → fits a s ≡ true → plus (minus s a) a ≡ s
returned s a e = let f = parts a s e in same_space _ _ (omega arith) (omega arith) (omega arith)

-- the space that one takes goes over to the space taken
pub spent : (s a t : Space) → fits a s ≡ true → plus (minus s a) (plus a t) ≡ plus s t
spent s a t e = let f = parts a s e in same_space _ _ (omega arith) (omega arith) (omega arith)

pub plus_assoc : (a b c : Space) → plus (plus a b) c ≡ plus a (plus b c)
plus_assoc a b c = same_space _ _ (omega arith) (omega arith) (omega arith)

-- two that are added change places
pub plus_swap : (a b c : Space) → plus a (plus b c) ≡ plus b (plus a c)
plus_swap a b c = same_space _ _ (omega arith) (omega arith) (omega arith)
