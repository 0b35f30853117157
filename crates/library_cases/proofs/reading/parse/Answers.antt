use Rattle.std.proofs.Common.{◌≡◌, ℕ, ◌-◌, ◌≤◌, List, [], ◌∷◌, length, get_or, take, drop, Ok, Some, None, Option, sym, ap, ◌∙◌, arith, Bor}
use Rattle.std.proofs.lemmas.List.{take_all}
use Rattle.std.specs.Option.{ok_or, option_and_then}
use Rattle.library_cases.specs.declared.read_error.ReadError.TheVariants.{BadLine}
use Rattle.library_cases.specs.declared.reading.Verb.{Verb}
use Rattle.library_cases.specs.Words.{words, texts}
use Rattle.library_cases.specs.Commands.{verb_of, by_verb, in_words, command_in}
use Rattle.library_cases.proofs.Pairs.{no_word}
use Rattle.library_cases.proofs.reading.parse.Goals as goal

known : (o : Option Verb) (verb : Verb) → Ok verb ≡ ok_or o BadLine → o ≡ Some verb
known None verb e = cc
known (Some v) verb e = cc

-- a line whose first word is this verb
begins : (line : List ℕ) (ws : List (Bor (List ℕ))) (verb : Verb) → texts ws ≡ words line → 1 ≤ length ws → verb_of (get_or ws 0 no_word).now ≡ Some verb
    → by_verb verb (texts (take (length ws - 1) (drop 1 ws))) ≡ command_in line
begins line [] verb split long is = absurd (omega arith)
begins line (w ∷ ws) verb split long is =
    ap (λ (vs : List (Bor (List ℕ))). by_verb verb (texts vs)) (take_all (length (w ∷ ws) - 1) ws (omega arith))
    ∙ ap (option_and_then (λ (v : Verb). by_verb v (texts ws))) (sym is) ∙ ap in_words split

pub returns-in-len1-up : goal.returns-in-len1-up
returns-in-len1-up c =
    let verb = c.in_ok-parse-in-len1-up in
    let split = ap texts c.as_slice.ensures.value ∙ c.in_ok-words.ensures in
    rw (begins c.args.line.now c.as_slice.result.now verb.field-0 split c.in-len1-up.len_at_least (known _ verb.field-0 verb.ensures.value)) at c.read_command.ensures
