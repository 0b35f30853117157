use Rattle.std.proofs.Common.{arith}
use Rattle.leaf_tests.proofs.Fitting.{new_unused}
use Rattle.leaf_tests.proofs.stored.Stored.new.Goals as goal

pub invariant_of-result : goal.invariant_of-result
invariant_of-result g c =
    let unused = new_unused c.in_ok-new.field-0 c.in_ok-new.ensures.meaning in
    record {
      whole = omega (arith, unused);
      memory = omega (arith, c.in_ok-new.ensures.most_rows);
    }
