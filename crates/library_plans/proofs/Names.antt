-- The questions of NAMES, where the program is found. Assumes nothing.
use Rattle.std.proofs.Common.{◌≡◌, ℕ, Bool, true, false, List, map, Some, None, Option, refl, ap, ◌∙◌}
use Rattle.std.specs.List.{list_all}
use Rattle.std.specs.Option.{option_map, option_and_then}
use Rattle.code.specs.declared.Code.{Ghosts as OfCode}
use Rattle.refusal.specs.declared.Refusal.TheVariants.{ForeignText}
use Rattle.library.specs.declared.reader.Reader.{Ghosts as OfReader}
use Rattle.library.specs.Meaning.{Library, Program, NamedString, place, name_at, program_at, strings_of}
use Rattle.library.specs.Name.{fits_name}
use Rattle.machine.specs.Texts.{Text, proper_name}
use Rattle.machine.specs.Faults.{program_name_length, foreign_text}
use Rattle.machine.specs.World.{World, Outcome, provided, valued, p1}
use Rattle.machine.specs.Libraries.{program_named, if_program, with_commas, string_names}
use Rattle.value.specs.declared.sources.Sources.{Sources}
use Rattle.value.specs.declared.value.Value.TheVariants.{Names}
use Rattle.value.specs.Texts.{names_of}
use Rattle.plan.specs.declared.effect.Effect.TheVariants.{Nothing}
use Rattle.plan.specs.Plans.{Sees, Refused, Planned}
use Rattle.plan.proofs.Planning.{refusing}

-- a program that has a name is there
with_its_strings : (p : Option Program) (n : Text) → option_map (λ (q : Program). q.name) p ≡ Some n → (w : World) (f : List NamedString → Outcome) → if_program p w (λ q. f q.strings) ≡ f (strings_of p)
with_its_strings None n named w f = absurd (cc)
with_its_strings (Some p) n named w f = refl

module _ {C R : Type 0} {code : OfCode C} {reader : OfReader R} (s : Sources C R code reader) where
  abbrev ps : List Text
  ps = s.parameters.now

  abbrev l : Library
  l = reader.meaning s.library.now

  -- what NAMES comes to with these strings
  abbrev with_strings : World → List NamedString → Outcome
  with_strings w ss =
      let names = map (λ (s : NamedString). s.name) ss in
      provided (list_all (proper_name code.meaning) names) foreign_text w (valued (with_commas (code.meaning.named 44) names) w)

  module _ (program : ℕ) (named : fits_name (p1 ps) ≡ true) (found : place (p1 ps) l.programs ≡ Some program) (there : name_at l.programs program ≡ Some (p1 ps)) where
    abbrev strings : List NamedString
    strings = strings_of (program_at l.programs program)

    abbrev all_proper : Bool
    all_proper = list_all (proper_name code.meaning) (names_of l program)

    names_as_seen : (w : World) → Sees s w → string_names code.meaning ps w ≡ with_strings w strings
    names_as_seen w sees =
        ap (λ t. provided t program_name_length w (if_program (program_named (p1 ps) w.library) w (λ p. with_strings w p.strings))) named
        ∙ ap (λ lib. if_program (program_named (p1 ps) lib) w (λ p. with_strings w p.strings)) sees.library
        ∙ ap (λ o. if_program (option_and_then (program_at l.programs) o) w (λ p. with_strings w p.strings)) found
        ∙ with_its_strings (program_at l.programs program) (p1 ps) there w (with_strings w)

    abbrev answered : Bool → World → Outcome
    answered t w = provided t foreign_text w (valued (with_commas (code.meaning.named 44) (names_of l program)) w)

    pub foreign : all_proper ≡ false → Refused s (string_names code.meaning ps) ForeignText
    foreign h = refusing s (string_names code.meaning ps) foreign_text (λ w sees. names_as_seen w sees ∙ ap (λ t. answered t w) h)

    pub proper : all_proper ≡ true → Planned s (string_names code.meaning ps) (record { value = Names program; effect = Nothing })
    proper h = record { stands = tt; may = tt; comes = λ w sees. names_as_seen w sees ∙ ap (λ t. answered t w) h }
