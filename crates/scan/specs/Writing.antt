-- A value that a call writes. Assumes nothing.
use Rattle.std.specs.Prelude.{◌≡◌, ℕ, length}
use Rattle.std.specs.Borrow.{Bor, MutBor}
use Rattle.std.specs.Fn.{Once}
use Rattle.machine.specs.Texts.{Text}

-- what is shown a text and writes into a part
abbrev pub Writer : Type 0 → Type 1
Writer F = Once F (Bor Text × (MutBor Text × Unit {0})) (Unit {0} × (MutBor Text × Unit {0}))

module _ {F : Type 0} (g : Writer F) (f : F) (shown : Text) (n : ℕ) where
  -- it may be called with that text and any part of n bytes
  abbrev pub MayWrite : Type 0
  MayWrite = (text : Bor Text) (part : MutBor Text) → text.now ≡ shown → length part.now ≡ n → g.pre f (text, (part, tt))

  -- it was called with that text and a part of n bytes, and left the value there
  pub record Writes (value : Text) : Type 0 where
    pub text : Bor Text
    pub is_shown : text.now ≡ shown
    pub part : MutBor Text
    pub is_long : length part.now ≡ n
    pub back : MutBor Text
    pub met : g.post f (text, (part, tt)) (tt, (back, tt))
    pub left_there : back.now ≡ value
