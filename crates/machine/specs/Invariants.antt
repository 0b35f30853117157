-- What holds of the dictionary at all times, whatever calls are made. Assumes nothing.
use Rattle.std.specs.Prelude.{◌≡◌, ◌≤◌, List, [], ◌∷◌, length, None}
use Rattle.library.specs.Meaning.{Library}
use Rattle.machine.specs.declared.amounts.Limits.{Limits}
use Rattle.machine.specs.Texts.{Code}
use Rattle.machine.specs.Dictionary.{Dictionary, Row, Class, Meaning, built_in, string, in_classes}
use Rattle.machine.specs.Calls.{Call, Memory, new, done, memory_after}
use Rattle.machine.specs.Laws.{Distinct}

-- one call keeps a property of the dictionary
abbrev pub KeptByCalls : (Dictionary → Type 0) → Type 0
KeptByCalls P = (code : Code) (p : Limits) (m : Memory) (c : Call) → P m.dictionary → P (done code p m c).memory.dictionary

-- it holds after any list of calls from a new processor
abbrev pub Always : (Dictionary → Type 0) → Type 0
Always P = (code : Code) (l : Library) (p : Limits) (cs : List Call) → P (memory_after code p (new l) cs).dictionary

-- NAMES

-- no two classes have one name
abbrev pub DistinctClasses : List Class → Type 0
DistinctClasses [] = Unit {0}
DistinctClasses (c ∷ cs) = (in_classes c.name cs ≡ None) × DistinctClasses cs

pub record NamesDistinct (d : Dictionary) : Type 0 where
  pub of_rows : Distinct d.rows
  pub of_classes : DistinctClasses d.classes

abbrev pub CallsKeepNamesDistinct : Type 0
CallsKeepNamesDistinct = KeptByCalls NamesDistinct

abbrev pub NamesAreAlwaysDistinct : Type 0
NamesAreAlwaysDistinct = Always NamesDistinct

-- RESIDUAL POINTERS

-- a pointer is in its body, or at its end
abbrev pub PointerWithin : Meaning → Type 0
PointerWithin (built_in f) = Unit {0}
PointerWithin (string s) = s.pointer ≤ length s.body

abbrev pub PointersWithin : List Row → Type 0
PointersWithin [] = Unit {0}
PointersWithin (r ∷ rs) = PointerWithin r.meaning × PointersWithin rs

abbrev pub CallsKeepPointersWithin : Type 0
CallsKeepPointersWithin = KeptByCalls (λ d. PointersWithin d.rows)

abbrev pub PointersAreAlwaysWithin : Type 0
PointersAreAlwaysWithin = Always (λ d. PointersWithin d.rows)
