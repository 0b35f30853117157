-- The lines of the head as formats give them: each part before all that follow.
use Rattle.std.proofs.Common.{◌≡◌, ℕ, Bool, cond, List, ◌++◌, length, codes, decimal, append_assoc}
use Rattle.code.specs.Meaning.{CodeMeaning}
use Rattle.library.specs.Meaning.{Library, Program, string_count}
use Rattle.library.specs.declared.space.Space.{Space}
use Rattle.listing.specs.Listing.{head, code_line, count_lines, lock_line, space_line}

pub code_line_is : (number : ℕ) (title : List ℕ) → codes "code: " ++ (decimal number ++ (codes " (" ++ (title ++ codes ")\n"))) ≡ code_line number title
unfolding code_line
code_line_is number title = simp append_assoc

pub count_lines_are : (ps : List Program)
    → codes "programs: " ++ (decimal (length ps) ++ (codes "\nstrings: " ++ (decimal (string_count ps) ++ codes "\n"))) ≡ count_lines ps
unfolding count_lines
count_lines_are ps = simp append_assoc

pub lock_line_is : (locked : Bool) → codes "locked: " ++ (cond locked (codes "yes") (codes "no") ++ codes "\n") ≡ lock_line locked
unfolding lock_line
lock_line_is locked = simp append_assoc

pub space_line_is : (s : Space)
    → codes "space left: " ++ (decimal s.programs ++ (codes " programs, " ++ (decimal s.strings ++ (codes " strings, " ++ (decimal s.bytes ++ codes " bytes\n")))))
    ≡ space_line s
unfolding space_line
space_line_is s = simp append_assoc

pub head_is : (code : CodeMeaning) (title : List ℕ) (l : Library)
    → code_line code.number title ++ (count_lines l.programs ++ (lock_line l.locked ++ space_line l.space)) ≡ head code title l
unfolding head
head_is code title l = simp append_assoc
