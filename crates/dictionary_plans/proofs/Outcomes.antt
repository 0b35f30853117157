-- What functions on a string come to, once the string is found.
use Rattle.std.proofs.Common.{◌≡◌, ℕ, Bool, true, false, refl, ◌∙◌}
use Rattle.code.specs.declared.Code.{Ghosts as OfCode}
use Rattle.library.specs.declared.reader.Reader.{Ghosts as OfReader}
use Rattle.machine.specs.Texts.{Text}
use Rattle.machine.specs.Faults.{no_mark_number}
use Rattle.machine.specs.World.{World, of_string, provided, changing, p1}
use Rattle.machine.specs.Strings.{segment_string, segmented, mark_for_creation}
use Rattle.dictionary.specs.declared.string_place.StringPlace.{StringPlace}
use Rattle.dictionary.specs.Finding.{Standing}
use Rattle.dictionary.specs.Strings.{place_of, string_in}
use Rattle.value.specs.declared.sources.Sources.{Sources}
use Rattle.value.specs.declared.value.Value.{Value}
use Rattle.value.specs.declared.value.Value.TheVariants as value
use Rattle.value.specs.Taking.{Stands, text_from}
use Rattle.plan.specs.declared.effect.Effect.TheVariants.{Segment, MarkCreation}
use Rattle.plan.specs.Plans.{Planned, GoesOn}

-- where numbers run out, the value says nothing
with_numbers : (numbered enough : Bool) (t u : Text) (w : World) → numbered ≡ enough → (numbered ≡ true → t ≡ u)
    → provided enough no_mark_number w (changing u w) ≡ provided numbered no_mark_number w (changing t w)
with_numbers true enough t u w known said = rw (← known, said refl) refl
with_numbers false enough t u w known said = rw (← known) refl

module _ {C R : Type 0} {code : OfCode C} {reader : OfReader R} (s : Sources C R code reader) (string : StringPlace)
    (found : GoesOn s (of_string code.meaning (p1 s.parameters.now)) (string_in string s.store.now))
    (standing : Standing s.dictionary.now s.store.now (p1 s.parameters.now) (place_of string)) where
  pub creation_planned : Planned s (mark_for_creation code.meaning s.parameters.now) (record { value = value.Nothing; effect = MarkCreation string })
  creation_planned = record { stands = tt; may = standing; comes = λ w sees. found.on w sees _ }

  -- the value is the text of how many places are marked
  pub segment_planned : (text : ℕ → Text) (v : Value) (numbered : Bool) → Stands s v
      → numbered ≡ (segmented code.meaning s.parameters.now (string_in string s.store.now)).numbered
      → (numbered ≡ true → text_from s v ≡ text (segmented code.meaning s.parameters.now (string_in string s.store.now)).places)
      → Planned s (λ w. segment_string code.meaning s.parameters.now w text) (record { value = v; effect = Segment string numbered })
  segment_planned text v numbered stands known said = record {
    stands = stands;
    may = record { standing = standing; is_known = known };
    comes = λ w sees. found.on w sees _ ∙ with_numbers numbered _ (text_from s v) _ _ known said;
  }
