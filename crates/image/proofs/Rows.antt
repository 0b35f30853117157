-- Tests and sums over the entries of rows, as loops over the rows make them.
use Rattle.std.proofs.Common.{◌≡◌, ℕ, ◌+◌, Bool, ◌||◌, List, [], ◌∷◌, map, refl, ap, ◌∙◌, arith}
use Rattle.std.specs.List.{list_any, sum_by, fold}
use Rattle.std.specs.Str.{bytes_eq}
use Rattle.image.specs.Tests.{among}
use Rattle.image.specs.Contents.{first_entry, entries_of_rows, program_of, text_size, text_sizes}

pub among_rows : (n : List ℕ) (rows : List (List ℕ)) → list_any (λ r. bytes_eq (program_of (first_entry r)) n) rows ≡ among n (map program_of (entries_of_rows rows))
among_rows n [] = refl
among_rows n (r ∷ rows) = ap (λ (b : Bool). bytes_eq (program_of (first_entry r)) n || b) (among_rows n rows)

from : (a : ℕ) (rows : List (List ℕ)) → fold (λ (k : ℕ) (r : List ℕ). k + text_size (first_entry r)) a rows ≡ a + text_sizes (entries_of_rows rows)
from a [] = omega arith
from a (r ∷ rows) = from (a + text_size (first_entry r)) rows ∙ omega arith

pub text_sizes-rows : (rows : List (List ℕ)) → sum_by (λ r. text_size (first_entry r)) rows ≡ text_sizes (entries_of_rows rows)
text_sizes-rows rows = from 0 rows ∙ omega arith
