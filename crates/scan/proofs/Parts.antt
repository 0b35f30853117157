-- The parts of an area, after a copy within it or a write. Assumes nothing.
use Rattle.std.proofs.Common.{◌≡◌, ℕ, ◌+◌, ◌-◌, ◌≤◌, List, ◌++◌, length, take, drop, ap, ap₂, sym, ◌∙◌, arith, length-drop, length-append}
use Rattle.std.proofs.Math.Seq.{paste, drop-paste, take-paste, take-add}
use Rattle.std.proofs.lemmas.List.{drop-drop, drop-take, take_at, drop_at, take-take, append_assoc, take-append-le, length-take-le}

-- past the part that was pasted
pub drop_past_paste : (d : List ℕ) (at : ℕ) (s : List ℕ) (n m : ℕ) → at + n ≤ m → at ≤ length d → n ≤ length s → drop m (paste d at s n) ≡ drop m d
drop_past_paste d at s n m h k l =
    let e : m ≡ at + n + (m - (at + n)) = omega arith in
    ap (λ x. drop x (paste d at s n)) e
    ∙ sym (drop-drop (m - (at + n)) (at + n) (paste d at s n))
    ∙ ap (drop (m - (at + n))) (drop-paste d at s n k l)
    ∙ drop-drop (m - (at + n)) (at + n) d
    ∙ ap (λ x. drop x d) (sym e)

module _ (d : List ℕ) (left right : ℕ) where
  -- bytes of the right text moved behind the left text
  pub front_of_moved : (n : ℕ) → left ≤ right → right + n ≤ length d → take (left + n) (paste d left (drop right d) (right + n - right)) ≡ take left d ++ take n (drop right d)
  front_of_moved n h k =
      let size : length (drop right d) ≡ length d - right = length-drop right d in
      let e : right + n - right ≡ n = omega arith in
      ap (λ m. take (left + n) (paste d left (drop right d) m)) e ∙ take-paste d left (drop right d) n (omega arith) (omega arith)

  pub rest_of_moved : (n : ℕ) → left ≤ right → right + n ≤ length d → drop (right + n) (paste d left (drop right d) (right + n - right)) ≡ drop n (drop right d)
  rest_of_moved n h k =
      let size : length (drop right d) ≡ length d - right = length-drop right d in
      drop_past_paste d left (drop right d) (right + n - right) (right + n) (omega arith) (omega arith) (omega arith)
      ∙ sym (drop-drop n right d)

-- a part of the left text went
module _ (d : List ℕ) (start end left : ℕ) (ordered : start ≤ end) (within : end ≤ left) (fits : left ≤ length d) where
  pub front_of_closed : take (left - (end - start)) (paste d start (drop end d) (left - end)) ≡ take start (take left d) ++ drop end (take left d)
  front_of_closed =
      let size : length (drop end d) ≡ length d - end = length-drop end d in
      let new : left - (end - start) ≡ start + (left - end) = omega arith in
      let old : left ≡ end + (left - end) = omega arith in
      ap (λ m. take m (paste d start (drop end d) (left - end))) new
      ∙ take-paste d start (drop end d) (left - end) (omega arith) (omega arith)
      ∙ ap₂ (λ x y. x ++ y) (sym (take-take start left d (omega arith))) (sym (ap (λ m. drop end (take m d)) old ∙ drop-take end (left - end) d))

  pub rest_of_closed : (right : ℕ) → left ≤ right → drop right (paste d start (drop end d) (left - end)) ≡ drop right d
  rest_of_closed right h =
      let size : length (drop end d) ≡ length d - end = length-drop end d in
      drop_past_paste d start (drop end d) (left - end) right (omega arith) (omega arith) (omega arith)

-- a value was written
module _ (d v : List ℕ) (start n : ℕ) (fits : start + n ≤ length d) (long : length v ≡ n) where
  abbrev pub written : List ℕ
  written = take start d ++ (v ++ drop (start + n) d)

  before : length (take start d) ≡ start
  before = length-take-le start d (omega arith)

  pub length-written : length written ≡ length d
  length-written = simp (length-append, length-drop, before) (omega arith)

  pub front_of_written : (m : ℕ) → m ≤ start → take m written ≡ take m d
  front_of_written m h = take-append-le m (take start d) (v ++ drop (start + n) d) (omega (arith, before)) ∙ take-take m start d h

  pub up_to_written : take (start + n) written ≡ take start d ++ v
  up_to_written =
      ap (take (start + n)) (sym (append_assoc (take start d) v (drop (start + n) d)))
      ∙ take_at (take start d ++ v) (drop (start + n) d) (start + n) (length-append (take start d) v ∙ ap₂ (λ a b. a + b) before long)

  pub from_written : drop start written ≡ v ++ drop (start + n) d
  from_written = drop_at (take start d) (v ++ drop (start + n) d) start before

  pub rest_of_written : (m : ℕ) → start + n ≤ m → drop m written ≡ drop m d
  rest_of_written m h =
      let e : m ≡ start + n + (m - (start + n)) = omega arith in
      let all : drop (start + n) written ≡ drop (start + n) d
      = ap (drop (start + n)) (sym (append_assoc (take start d) v (drop (start + n) d)))
      ∙ drop_at (take start d ++ v) (drop (start + n) d) (start + n) (length-append (take start d) v ∙ ap₂ (λ a b. a + b) before long)
      in
      ap (λ x. drop x written) e ∙ sym (drop-drop (m - (start + n)) (start + n) written) ∙ ap (drop (m - (start + n))) all
      ∙ drop-drop (m - (start + n)) (start + n) d ∙ ap (λ x. drop x d) (sym e)

-- an area in four parts, of which the third is replaced
pub replaced : (d front between rest x : List ℕ) (m start n : ℕ) → m ≤ start → front ≡ take m d → between ≡ take (start - m) (drop m d) → rest ≡ drop (start - m) (drop m d) →
    front ++ (between ++ (x ++ drop n rest)) ≡ take start d ++ (x ++ drop (start + n) d)
replaced d front between rest x m start n h e f g =
    let whole : m + (start - m) ≡ start = omega arith in
    let first : front ++ between ≡ take start d = ap₂ (λ a b. a ++ b) e f ∙ sym (take-add m (start - m) d) ∙ ap (λ k. take k d) whole in
    let last : drop n rest ≡ drop (start + n) d
    = ap (drop n) (g ∙ drop-drop (start - m) m d ∙ ap (λ k. drop k d) whole) ∙ drop-drop n start d
    in
    sym (append_assoc front between (x ++ drop n rest)) ∙ ap₂ (λ a b. a ++ (x ++ b)) first last
