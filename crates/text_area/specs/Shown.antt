-- The text of an area, and the room behind it. Assumes nothing.
use Rattle.std.specs.Prelude.{◌≡◌, ℕ, ◌+◌, ◌≤◌, List, take, length}
use Rattle.text_area.specs.declared.text_area.TextArea.{TextArea}

abbrev pub text_of : TextArea → List ℕ
text_of a = take a.len a.area.now

-- n bytes more fit
abbrev pub HasRoom : ℕ → TextArea → Type 0
HasRoom n a = a.len + n ≤ length a.area.now

-- the text is another one, in the same area
pub record Becomes (a b : TextArea) (text : List ℕ) : Type 0 where
  pub text_is : text_of b ≡ text
  pub len_is : b.len ≡ length text
  pub same_loan : b.area.ghost_name ≡ a.area.ghost_name
  pub same_size : length b.area.now ≡ length a.area.now
