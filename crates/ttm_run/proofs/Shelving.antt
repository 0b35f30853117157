-- What the demonstration's shelf comes to, and its text.
use Rattle.std.proofs.Common.{◌≡◌, ℕ, Bool, true, List, [], ◌++◌, Some, None, codes, Option, append_assoc, sym, ap, ◌∙◌}
use Rattle.std.specs.Option.{option_map}
use Rattle.refusal.specs.declared.Refusal.{Refusal}
use Rattle.library.specs.declared.program_name.ProgramName.{ProgramName}
use Rattle.library.specs.Meaning.{Program, Library}
use Rattle.library.specs.Locked.{locked_library}
use Rattle.library.specs.Name.{name_bytes}
use Rattle.library.specs.Operations.{program_of}
use Rattle.shelf.specs.Shelved.{empty_library}
use Rattle.std.specs.Option.{option_or}
use Rattle.exchange.specs.Stopping.{first_refusal, until_refused, ComesTo}
use Rattle.showing.specs.declared.failure.Failure.{Failure}
use Rattle.showing.specs.declared.failure.Failure.TheVariants.{Refused, NoMemory}
use Rattle.showing.specs.Failing.{FailedBy}
use Rattle.ttm_run.specs.Filling.{filling}
use Rattle.ttm_run.specs.Demonstration.{draft, shown, verdict, heading, shown_both, ShownBoth, shown_demonstration}
use Rattle.ttm_run.proofs.Drafts.{draft_leaves_nothing}

-- the name DRAFT and its string are the draft
pub drafted : (o : Option ProgramName) (n : ProgramName) → option_map name_bytes o ≡ Some (codes "DRAFT") → o ≡ Some n → program_of n draft.strings ≡ draft
drafted o n value is =
    let named : Some (name_bytes n) ≡ Some (codes "DRAFT") = sym (ap (option_map name_bytes) is) ∙ value in
    let same : name_bytes n ≡ codes "DRAFT" = cc in
    ap (λ (bytes : List ℕ). record { name = bytes; strings = draft.strings }) same

-- a new shelf that was filled: the refusal, and if there is none the programs
pub shelved : (l m : Library) (program : Program) (ps : List Program) (r : Option Refusal) → l ≡ empty_library → program ≡ draft → ComesTo l (filling 2 program ps) r m → (r ≡ first_refusal empty_library (filling 2 draft ps)) × (r ≡ None → m.programs ≡ ps)
shelved l m program ps r new is told =
    let answer : r ≡ first_refusal empty_library (filling 2 draft ps) = told.refusal ∙ ap (λ (x : Library). first_refusal x (filling 2 program ps)) new ∙ ap (λ (p : Program). first_refusal empty_library (filling 2 p ps)) is in
    let left : m ≡ until_refused empty_library (filling 2 draft ps) = told.left ∙ ap (λ (x : Library). until_refused x (filling 2 program ps)) new ∙ ap (λ (p : Program). until_refused empty_library (filling 2 p ps)) is in
    (answer, (λ none. ap (λ (x : Library). x.programs) left ∙ draft_leaves_nothing empty_library 2 draft ps (sym answer ∙ none)))

-- the text, as it is put together
pub together : (l m : Library) (same : Bool) (before last : List ℕ) → last ≡ verdict same → before ++ (shown l ++ (heading ++ (shown m ++ last))) ≡ shown_both before l m same
unfolding shown_both
together l m same before last e =
    let a = append_assoc before (shown l) (heading ++ (shown m ++ last)) in
    let b = append_assoc (before ++ shown l) heading (shown m ++ last) in
    let c = append_assoc ((before ++ shown l) ++ heading) (shown m) last in
    cc

-- the image was refused ..
pub image_refused : (r : Refusal) (first next : Option Refusal) → Some r ≡ first → option_or first next ≡ Some r
image_refused r first next e = ap (λ (o : Option Refusal). option_or o next) (sym e)

-- .. or was not, and then the shelf failed ..
pub shelf_failed : (f : Failure) (first next told : Option Refusal) → None ≡ first → told ≡ next → FailedBy f told → FailedBy f (option_or first next)
shelf_failed (Refused r) first next told e same fails = ap (λ (o : Option Refusal). option_or o next) (sym e) ∙ sym same ∙ fails
shelf_failed NoMemory first next told e same fails = tt

-- .. or did not
pub none_refused : (first next told : Option Refusal) → None ≡ first → told ≡ next → told ≡ None → option_or first next ≡ None
none_refused first next told e same passed = ap (λ (o : Option Refusal). option_or o next) (sym e) ∙ sym same ∙ passed

-- an image of these programs, and a locked shelf of its programs
pub same_shown : (l m : Library) (ps : List Program) (before text : List ℕ) → before ≡ [] → l ≡ locked_library ps → m ≡ locked_library l.programs → ShownBoth before l m text → text ≡ shown_demonstration ps
same_shown l m ps before text new image shelf both =
    let shelved : m ≡ locked_library ps = shelf ∙ ap (λ (x : Library). locked_library x.programs) image in
    let alike : both.same ≡ true = both.decides.1 (image ∙ sym shelved) in
    both.is
    ∙ ap (λ (x : List ℕ). shown_both x l m both.same) new
    ∙ ap (shown_both [] l m) alike
    ∙ ap (λ (x : Library). shown_both [] x m true) image
    ∙ ap (λ (x : Library). shown_both [] (locked_library ps) x true) shelved
