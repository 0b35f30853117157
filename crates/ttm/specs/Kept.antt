-- What lasts in a processor, given the store and the library that are lent for a call.
use Rattle.std.specs.Prelude.{◌≡◌, ℕ, List}
use Rattle.code.specs.declared.Code.{Ghosts as OfCode}
use Rattle.library.specs.Meaning.{Library}
use Rattle.machine.specs.declared.amounts.Limits.{Limits}
use Rattle.machine.specs.Calls.{Memory}
use Rattle.machine.specs.Dictionary.{new_dictionary}
use Rattle.dictionary.specs.Meant.{dictionary_in}
use Rattle.ttm.specs.declared.processor.Processor.{Processor}

module _ {C : Type 0} {code : OfCode C} where
  abbrev pub memory_in : Processor C code → List ℕ → Library → Memory
  memory_in p store library = record { dictionary = dictionary_in p.dictionary store; created = p.created; library = library }

  -- a processor that was just made: all built-ins, no string, no class, and no number created, whatever the store's bytes are
  pub record IsNew (p : Processor C code) (c : C) (limits : Limits) : Type 0 where
    pub code_is : p.signs.code ≡ c
    pub limits_are : p.limits ≡ limits
    pub dictionary_is : (store : List ℕ) → dictionary_in p.dictionary store ≡ new_dictionary
    pub none_created : p.created ≡ 0

  -- its code and its limits stay
  pub record SameKept (p q : Processor C code) : Type 0 where
    pub signs : q.signs ≡ p.signs
    pub limits : q.limits ≡ p.limits
