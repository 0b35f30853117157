use Rattle.std.proofs.Common.{◌≡◌, ◌*◌, ◌/◌, [], None, Option, Err, get_or, length, map, vec_items, sym, ap, ◌∙◌, arith}
use Rattle.std.proofs.lemmas.Result.{err_from_is_err_and}
use Rattle.library_cases.specs.declared.read_error.ReadError.{ReadError}
use Rattle.library_cases.specs.declared.read_error.ReadError.TheVariants.{BadLine, NoMemory}
use Rattle.library_cases.specs.Reading.{Reads}
use Rattle.library_cases.specs.Handed.{named, handed}
use Rattle.library_cases.specs.Words.{texts}
use Rattle.library_cases.specs.Commands.{strings_in}
use Rattle.library_cases.proofs.Pairs.{string_in_pair, strings_in_pairs, by_pairs, odd_none, at_pair, all_read}
use Rattle.library_cases.proofs.reading.read_strings.Goals as goal

-- where a part is read badly, so is the whole
part_bad : {X Y X' Y' : Type 0} (f : X → Y) (g : X' → Y') (e : ReadError) (part : Option Y) (whole : Option Y') → (part ≡ None → whole ≡ None)
    → Reads f (Err e) part → Reads g (Err e) whole
part_bad f g BadLine part whole so none = sym (so (sym none))
part_bad f g (NoMemory m) part whole so none = tt

pub returns-in_default : goal.returns-in_default
returns-in_default c = sym (odd_none c.args.words.now (omega arith))

pub returns-in_err-read_text : goal.returns-in_err-read_text
returns-in_err-read_text c =
    let words = c.args.words.now in
    let pairs = c.as_chunks.result.0.now in
    let i = c.loop-name.name-index in
    let whole : length words ≡ length words / 2 * 2 = omega arith in
    let read = ap strings_in_pairs c.as_chunks.ensures.front ∙ by_pairs (length words / 2) words whole in
    let error = err_from_is_err_and c.from_residual.result c.from_residual.ensures.1 in
    let pair = string_in_pair (get_or pairs i []) in
    let bad : pair ≡ None → strings_in (texts words) ≡ None =
    λ none. sym (at_pair (map named (vec_items c.loop-name.texts)) pairs i None c.loop-name-test.true (sym none) ∙ c.loop-name.invariant ∙ read) in
    rw (error.1, error.2) (part_bad named handed c.in_err-read_text.field-0.0 pair (strings_in (texts words)) bad c.in_err-read_text.ensures)

pub returns : goal.returns
returns c =
    let words = c.args.words.now in
    let pairs = c.as_chunks.result.0.now in
    let whole : length words ≡ length words / 2 * 2 = omega arith in
    let read = ap strings_in_pairs c.as_chunks.ensures.front ∙ by_pairs (length words / 2) words whole in
    all_read (map named (vec_items c.loop-name.texts)) pairs c.loop-name.name-index c.loop-name-test.false ∙ c.loop-name.invariant ∙ read
