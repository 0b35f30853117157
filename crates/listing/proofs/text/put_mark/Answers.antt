use Rattle.std.proofs.Common.{arith}
use Rattle.listing.proofs.Marks.{one_in_mark, two_in_mark, three_in_mark, puts_same}
use Rattle.listing.proofs.text.put_mark.Goals as goal

pub returns-then-mark-lt10 : goal.returns-then-mark-lt10
returns-then-mark-lt10 c = puts_same (one_in_mark c.args.mark (omega arith)) c.put.ensures

pub returns-then-mark-lt100 : goal.returns-then-mark-lt100
returns-then-mark-lt100 c = puts_same (two_in_mark c.args.mark (omega arith) (omega arith)) c.put-then-mark-lt100.ensures

pub returns : goal.returns
returns c = puts_same (three_in_mark c.args.mark (omega arith) (omega arith)) c.put-2.ensures
