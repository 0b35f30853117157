use Rattle.machine.proofs.LookingUp.{defined, string_copied, built_in_copied, kept_from_defined, defined_distinct, changed_distinct, erased_distinct, erased, kept_from_erased, fetched_looked_up}
use Rattle.machine.proofs.laws.dictionary_laws_hold.Goals as goal

pub returns : goal.returns
returns c =
    record {
      defined = defined;
      copied = string_copied;
      copied_built_in = built_in_copied;
      others_stay = kept_from_defined;
      distinct = defined_distinct;
      changed_distinct = changed_distinct;
      erased_distinct = erased_distinct;
      erased = erased;
      others_last = kept_from_erased;
      fetched = fetched_looked_up;
    }
