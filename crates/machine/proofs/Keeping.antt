-- STORE and DELETE as the library answers them. Assumes nothing.
use Rattle.std.proofs.Common.{Bool, true, false, cond, not, [], is_some, Some, None, refl}
use Rattle.library.specs.Meaning.{place}
use Rattle.library.specs.Keeping.{fits, space_of, with_program, without_program}
use Rattle.refusal.specs.declared.Refusal.TheVariants.{Locked, ProgramPresent, ProgramAbsent, LibraryFull}
use Rattle.machine.specs.Faults.{locked, program_present, program_absent, library_full}
use Rattle.machine.specs.World.{with_library, provided, changing}
use Rattle.machine.specs.Laws.{AsTheLibrary, StoredAsTheLibraryDoes, DeletedAsTheLibraryDoes}

pub stored : StoredAsTheLibraryDoes
stored p w = go w.library.locked (is_some (place p.name w.library.programs)) (fits (space_of p) w.library.space)
  where
    go : (shut there room : Bool) →
        AsTheLibrary (cond shut (Some Locked) (cond there (Some ProgramPresent) (cond room None (Some LibraryFull)))) w (with_program w.library p)
        (provided (not shut) locked w (provided (not there) program_present w (provided room library_full w (changing [] (with_library (with_program w.library p) w)))))
    go true there room = (locked, refl, refl)
    go false true room = (program_present, refl, refl)
    go false false true = refl
    go false false false = (library_full, refl, refl)

pub deleted : DeletedAsTheLibraryDoes
deleted n w = go w.library.locked (is_some (place n w.library.programs))
  where
    go : (shut there : Bool) →
        AsTheLibrary (cond shut (Some Locked) (cond there None (Some ProgramAbsent))) w (without_program w.library n)
        (provided (not shut) locked w (provided there program_absent w (changing [] (with_library (without_program w.library n) w))))
    go true there = (locked, refl, refl)
    go false true = refl
    go false false = (program_absent, refl, refl)
