-- A text whose first piece is cut off.
use Rattle.std.proofs.Common.{◌≡◌, ℕ, zero, suc, ◌+◌, ◌==◌, Bool, true, false, not, cond, [], ◌∷◌, ◌++◌, length, take, drop, Some, None, refl, sym, ap, ◌∙◌, arith}
use Rattle.std.specs.Prelude.{Option}
use Rattle.std.specs.List.{prefix_len}
use Rattle.machine.specs.Texts.{Text}
use Rattle.machine.specs.Functions.{lines}
use Rattle.printing.specs.Left.{lines_left, next_text}

-- how long the first piece is, where so many bytes fit it
abbrev pub first_length : ℕ → ℕ → Text → ℕ
first_length e room t = prefix_len (λ b. not (b == e)) (take room t)

-- what is printed where the first piece has n bytes
abbrev pub cut_lines : ℕ → ℕ → Text → Text
cut_lines e n t = take n t ++ e ∷ lines_left e (next_text e (drop n t))

one_more : (n : ℕ) → suc n ≡ 1 + n
one_more n = omega arith

-- the byte behind a full line
behind_full : (e b : ℕ) (bs : Text) (ends : Bool) → (b == e) ≡ ends → cond ends (e ∷ lines e 132 bs) (e ∷ b ∷ lines e 131 bs) ≡ e ∷ lines_left e (cond ends (Some bs) (Some (b ∷ bs)))
behind_full e b bs true said = refl
behind_full e b bs false said = ap (λ ends. e ∷ cond ends (e ∷ lines e 132 bs) (b ∷ lines e 131 bs)) (sym said)

-- a byte that fits the line
on_line : (e room b : ℕ) (bs : Text) (n : ℕ) (ends : Bool) → (b == e) ≡ ends → lines e room bs ≡ cut_lines e n bs
    → cond ends (e ∷ lines e 132 bs) (b ∷ lines e room bs) ≡ cut_lines e (cond (not ends) (1 + n) 0) (b ∷ bs)
on_line e room b bs n true said behind = ap (λ ends. e ∷ lines_left e (cond ends (Some bs) (Some (b ∷ bs)))) (sym said)
on_line e room b bs n false said behind = ap (λ t. b ∷ t) behind ∙ ap (λ k. cut_lines e k (b ∷ bs)) (one_more n)

-- the lines of a text are its first piece, an end of line, and the lines of what is left
pub lines-cut : (e room : ℕ) (t : Text) → lines e room t ≡ cut_lines e (first_length e room t) t
lines-cut e zero [] = refl
lines-cut e (suc room) [] = refl
lines-cut e zero (b ∷ bs) = behind_full e b bs (b == e) refl
lines-cut e (suc room) (b ∷ bs) = on_line e room b bs (first_length e room bs) (b == e) refl (lines-cut e room bs)

-- the same by parts that were computed
pub cut_parts : (e : ℕ) {n k : ℕ} (t : Text) {piece behind : Text} {rest : Option Text} → n ≡ k → piece ≡ take n t → behind ≡ drop n t → rest ≡ next_text e behind
    → cut_lines e k t ≡ piece ++ e ∷ lines_left e rest
cut_parts e t p q r s = cc

-- a bound on the pieces that are left
abbrev pub pieces_left : Option Text → ℕ
pieces_left None = 0
pieces_left (Some t) = suc (length t)
