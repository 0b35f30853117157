-- Parts of a library's text as formats give them: each part before all that follow.
use Rattle.std.proofs.Common.{◌≡◌, ℕ, List, ◌++◌, cond, true, false, Bool, codes, decimal, append_assoc, refl, ap, ◌∙◌}
use Rattle.std.specs.List.{flat_map}
use Rattle.library.specs.Meaning.{Library}
use Rattle.library.specs.declared.space.Space.{Space}
use Rattle.library_cases.specs.Showing.{shown_program, shown_lock, shown_space, shown_library}

lock_is : (locked : Bool) (rest : List ℕ) → codes "locked " ++ (cond locked (codes "yes") (codes "no") ++ rest) ≡ shown_lock locked ++ rest
lock_is true rest = refl
lock_is false rest = refl

space_is : (s : Space) → codes " left " ++ (decimal s.programs ++ (codes " " ++ (decimal s.strings ++ (codes " " ++ decimal s.bytes)))) ≡ shown_space s
unfolding shown_space
space_is s = simp append_assoc

pub library_is : (l : Library)
    → (codes "locked " ++ (cond l.locked (codes "yes") (codes "no") ++ (codes " left " ++ (decimal l.space.programs ++ (codes " " ++ (decimal l.space.strings ++ (codes " " ++ decimal l.space.bytes)))))))
    ++ flat_map shown_program l.programs
    ≡ shown_library l
unfolding shown_library
library_is l =
    ap (λ (t : List ℕ). t ++ flat_map shown_program l.programs) (lock_is l.locked _ ∙ ap (λ (t : List ℕ). shown_lock l.locked ++ t) (space_is l.space))
