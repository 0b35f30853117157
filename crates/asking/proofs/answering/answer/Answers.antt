use Rattle.std.proofs.Common.{length, refl, sym, ap}
use Rattle.machine.specs.Dictionary.{string, built_in, new_string, rest_of, class_of}
use Rattle.machine.specs.Classes.{the_bytes, all_but}
use Rattle.machine.specs.World.{p2}
use Rattle.dictionary.specs.Strings.{string_in}
use Rattle.asking.proofs.answering.answer.Goals as goal

pub returns-in-DefineString : goal.returns-in-DefineString
returns-in-DefineString g c =
    rw c.in-DefineString.is
    (c.ask_definition.ensures g.C.Code.meaning (string (new_string (p2 c.args.parameters.now))) _ (sym (ap length c.get.ensures)) refl)

pub returns-in-CopyString : goal.returns-in-CopyString
returns-in-CopyString g c =
    rw c.in-CopyString.is
    (c.ask_definition-in-CopyString.ensures g.C.Code.meaning (string (new_string (rest_of (string_in c.in-CopyString.string c.args.world.now.store.now)))) _ (sym (ap length c.rest-rest.ensures)) refl)

pub returns-in-CopyBuiltIn : goal.returns-in-CopyBuiltIn
returns-in-CopyBuiltIn g c =
    rw c.in-CopyBuiltIn.is
    (c.ask_definition-in-CopyBuiltIn.ensures g.C.Code.meaning (built_in c.in-CopyBuiltIn.field-0) _ refl refl)

pub returns-in-Append : goal.returns-in-Append
returns-in-Append g c = rw c.in-Append.is (c.ask_append.ensures _ refl)

pub returns-in-DefineClass : goal.returns-in-DefineClass
returns-in-DefineClass g c =
    rw c.in-DefineClass.is (c.ask_class.ensures (class_of (the_bytes (p2 c.args.parameters.now))) _ refl)

pub returns-in-DefineClassOfOthers : goal.returns-in-DefineClassOfOthers
returns-in-DefineClassOfOthers g c =
    rw c.in-DefineClassOfOthers.is (c.ask_class-in-DefineClassOfOthers.ensures (class_of (all_but g.C.Code.meaning (p2 c.args.parameters.now))) _ refl)

pub returns-in-Print : goal.returns-in-Print
returns-in-Print g c = rw c.in-Print.is (c.ask_lines.ensures _ refl)
