-- The questions of STORE in their order, each where those before it passed. Assumes nothing.
use Rattle.std.proofs.Common.{◌≡◌, Bool, true, false, List, drop, refl}
use Rattle.std.specs.Prelude.{is_some}
use Rattle.std.specs.List.{list_all}
use Rattle.code.specs.declared.Code.{Ghosts as OfCode}
use Rattle.refusal.specs.declared.Refusal.TheVariants.{NameUndefined, NotAString, ProgramNameLength, Locked, ProgramPresent, LibraryFull}
use Rattle.library.specs.declared.reader.Reader.{Ghosts as OfReader}
use Rattle.library.specs.Meaning.{Library}
use Rattle.library.specs.Name.{fits_name}
use Rattle.library.specs.Keeping.{fits, space_of}
use Rattle.machine.specs.Texts.{Text}
use Rattle.machine.specs.Faults.{no_name, not_a_string, program_name_length, locked, program_present, library_full}
use Rattle.machine.specs.World.{World, Outcome, p1}
use Rattle.machine.specs.Libraries.{is_string, has_program, store_program}
use Rattle.value.specs.declared.sources.Sources.{Sources}
use Rattle.library_plans.specs.Named.{meant, program_made}
use Rattle.plan.specs.declared.effect.Effect.TheVariants.{Store}
use Rattle.value.specs.declared.value.Value.TheVariants.{Nothing}
use Rattle.plan.specs.Plans.{Refused, Planned}
use Rattle.plan.proofs.Planning.{refusing}

module _ {C R : Type 0} {code : OfCode C} {reader : OfReader R} (s : Sources C R code reader) where
  abbrev ps : List Text
  ps = s.parameters.now

  abbrev l : Library
  l = reader.meaning s.library.now

  abbrev stores : World → Outcome
  stores = store_program code.meaning ps

  abbrev all_defined : Bool
  all_defined = list_all (λ n. is_some (meant s n)) (drop 1 ps)

  abbrev all_strings : Bool
  all_strings = list_all (λ n. is_string (meant s n)) (drop 1 ps)

  pub undefined : all_defined ≡ false → Refused s stores NameUndefined
  undefined h = refusing s stores no_name (λ w sees. rw (sees.dictionary, h) refl)

  module _ (defined : all_defined ≡ true) where
    pub other : all_strings ≡ false → Refused s stores NotAString
    other h = refusing s stores not_a_string (λ w sees. rw (sees.dictionary, defined, h) refl)

    module _ (strings : all_strings ≡ true) where
      pub misnamed : fits_name (p1 ps) ≡ false → Refused s stores ProgramNameLength
      misnamed h = refusing s stores program_name_length (λ w sees. rw (sees.dictionary, defined, strings, h) refl)

      module _ (named : fits_name (p1 ps) ≡ true) where
        pub is_locked : l.locked ≡ true → Refused s stores Locked
        is_locked h = refusing s stores locked (λ w sees. rw (sees.dictionary, sees.library, defined, strings, named, h) refl)

        module _ (open_to_all : l.locked ≡ false) where
          pub present : has_program (p1 ps) l ≡ true → Refused s stores ProgramPresent
          present h = refusing s stores program_present (λ w sees. rw (sees.dictionary, sees.library, defined, strings, named, open_to_all, h) refl)

          module _ (absent : has_program (p1 ps) l ≡ false) where
            pub is_full : fits (space_of (program_made s)) l.space ≡ false → Refused s stores LibraryFull
            is_full h = refusing s stores library_full (λ w sees. rw (sees.dictionary, sees.library, defined, strings, named, open_to_all, absent, h) refl)

            pub stored : fits (space_of (program_made s)) l.space ≡ true → Planned s stores (record { value = Nothing; effect = Store })
            stored h = record {
              stands = tt;
              may = record { all_strings = strings; named = named; granted = rw (open_to_all, absent, h) refl };
              comes = λ w sees. rw (sees.dictionary, sees.library, defined, strings, named, open_to_all, absent, h) refl;
            }
