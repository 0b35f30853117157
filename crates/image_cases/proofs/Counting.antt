-- The words of an answer.
use Rattle.std.proofs.Common.{◌≡◌, ℕ, List, length, None, Option, sym, ap, ◌∙◌, ◌++◌, codes, decimal, append_assoc}
use Rattle.library.specs.Meaning.{Program}
use Rattle.refusal.specs.declared.Refusal.{Refusal}
use Rattle.library.specs.Meaning.{string_count}
use Rattle.image_cases.specs.Answering.{answer_of}

-- the words of a granted image, as they are put together
pub granted : (refused : Option Refusal) (ps : List Program) (programs strings : ℕ) (text : List ℕ)
    → None ≡ refused → programs ≡ length ps → strings ≡ string_count ps
    → text ≡ codes "granted:" ++ (decimal programs ++ (codes ":" ++ decimal strings)) → text ≡ answer_of refused ps
granted refused ps programs strings text none p s is =
    rw (sym none, sym p, sym s) (is ∙ ap (λ t. codes "granted:" ++ t) (sym (append_assoc (decimal programs) (codes ":") (decimal strings))) ∙ sym (append_assoc (codes "granted:") (decimal programs ++ codes ":") (decimal strings)) ∙ ap (λ t. t ++ decimal strings) (sym (append_assoc (codes "granted:") (decimal programs) (codes ":"))))
