-- The two texts of a scan. Assumes nothing.
use Rattle.std.specs.Prelude.{◌≡◌, ℕ, ◌+◌, ◌≤◌, take, drop, length}
use Rattle.machine.specs.Texts.{Text}
use Rattle.scan.specs.declared.texts.ScanTexts.{ScanTexts}

abbrev pub left_of : ScanTexts → Text
left_of s = take s.left s.area.now

abbrev pub right_of : ScanTexts → Text
right_of s = drop s.right s.area.now

-- the area holds n bytes more than the texts
abbrev pub HasRoom : ℕ → ScanTexts → Type 0
HasRoom n s = length (left_of s) + length (right_of s) + n ≤ length s.area.now

-- the texts stand in the same area as before
pub record SameArea (s s' : ScanTexts) : Type 0 where
  pub same_loan : s'.area.ghost_name ≡ s.area.ghost_name
  pub same_size : length s'.area.now ≡ length s.area.now

-- the texts have become these, in the same area
pub record Become (s s' : ScanTexts) (left right : Text) : Type 0 where
  pub left_is : left_of s' ≡ left
  pub right_is : right_of s' ≡ right
  pub same_area : SameArea s s'
