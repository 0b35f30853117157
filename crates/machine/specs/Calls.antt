-- The public calls: make, expand and look; what each answers, and what lists of calls leave. Assumes nothing.
use Rattle.std.specs.Prelude.{ℕ, Bool, false, cond, ◌&&◌, List, [], ◌∷◌, length, Some, None, Option, nat_le}
use Rattle.code.specs.Meaning.{ranked}
use Rattle.library.specs.Meaning.{Library}
use Rattle.refusal.specs.Numbers.{number_of}
use Rattle.refusal.specs.declared.Refusal.{Refusal}
use Rattle.refusal.specs.declared.Refusal.TheVariants.{LimitOutOfRange, AreaTooShort, AllowanceOutOfRange, ForeignSource}
use Rattle.machine.specs.declared.amounts.Amounts.{Amounts}
use Rattle.machine.specs.declared.amounts.Limits.{Limits}
use Rattle.machine.specs.Texts.{Text, Code}
use Rattle.machine.specs.Chain.{nothing, bounds, Tally, Came, gave, stopped, walk}
use Rattle.machine.specs.Dictionary.{Dictionary, new_dictionary, Meaning, built_in, string, rest_of, look_up}
use Rattle.machine.specs.World.{World}
use Rattle.machine.specs.Scan.{State, expansion}
use Rattle.std.specs.List.{list_all}

-- Make: is each limit in range?
abbrev pub make_refusal : Limits → Option Refusal
make_refusal l =
    cond (nat_le l.names 128 && nat_le l.roll 256 && nat_le l.store 32768 && nat_le l.scan 32768 && nat_le l.print 32768)
    None (Some LimitOutOfRange)

-- the lengths of the areas that a host lends
pub record Areas : Type 0 where
  pub store_area : ℕ
  pub scan_area : ℕ
  pub print_area : ℕ

pub data Call : Type 0 where
  expand : (allowance : ℕ) → (source : Text) → Areas → Call
  look : (name : Text) → (store_area : ℕ) → Call

-- Answers.

-- what a look finds
pub data Finding : Type 0 where
  no_finding absent a_built_in : Finding
  -- its bytes from the residual pointer on
  a_string : Text → Finding

pub data Answer : Type 0 where
  -- a processor was made
  made : Answer
  -- an expansion came to its end: the text, what it printed and what it needed
  completed : (left printed : Text) → Amounts → Answer
  -- an expansion stopped on its way, with the name of the call that was being made
  cut_short : Refusal → (called printed : Text) → Amounts → Answer
  -- a call was refused at its entry
  turned_down : Refusal → Answer
  looked : Finding → Answer

-- what the host reads
pub record Reply : Type 0 where
  -- 0, or the number of the refusal
  pub number : ℕ
  pub text_length : ℕ
  -- what the scan area begins with, so many bytes
  pub shown : Text
  pub printed_length : ℕ
  -- what the print area begins with, so many bytes
  pub printed : Text
  -- the five needs, and the steps
  pub needs : Amounts
  pub finding : Finding

-- the called name is shown from 18 on
abbrev pub shown_name : Refusal → Text → Text
shown_name r called = cond (nat_le 18 (number_of r)) called []

abbrev pub replying : ℕ → Text → Text → Amounts → Finding → Reply
replying number shown printed needs finding =
    record { number = number; text_length = length shown; shown = shown; printed_length = length printed; printed = printed; needs = needs; finding = finding }

-- the number of each answer, and its values
abbrev pub reply : Answer → Reply
reply made = replying 0 [] [] nothing no_finding
reply (completed left printed needs) = replying 0 left printed needs no_finding
reply (cut_short r called printed needs) = replying (number_of r) (shown_name r called) printed needs no_finding
reply (turned_down r) = replying (number_of r) [] [] nothing no_finding
reply (looked f) = replying 0 [] [] nothing f

-- Calls.

-- what make answers
abbrev pub make_answer : Option Refusal → Answer
make_answer None = made
make_answer (Some r) = turned_down r

-- what lasts from call to call, beside the limits
pub record Memory : Type 0 where
  pub dictionary : Dictionary
  -- how many numbers were created
  pub created : ℕ
  pub library : Library

-- that of a new processor, with a library
abbrev pub new : Library → Memory
new l = record { dictionary = new_dictionary; created = 0; library = l }

-- what is compared after a call
pub record After : Type 0 where
  pub replied : Reply
  pub dictionary : Dictionary
  pub library : Library
  -- did a value want a created number?
  pub wanted : Bool

pub record Done : Type 0 where
  pub after : After
  pub memory : Memory

abbrev pub left_as : Answer → Bool → Memory → Done
left_as a wanted m =
    record { after = record { replied = reply a; dictionary = m.dictionary; library = m.library; wanted = wanted }; memory = m }

abbrev pub unchanged : Answer → Memory → Done
unchanged a m = left_as a false m

abbrev pub kept_of : World → Tally → Memory
kept_of w t = record { dictionary = w.dictionary; created = t.created; library = w.library }

-- what an expansion has come to
abbrev pub came_to : Came World State → Done
came_to (gave s t) = left_as (completed s.left s.world.printed t.needs) t.wanted (kept_of s.world t)
came_to (stopped r w t) = left_as (cut_short r w.called w.printed t.needs) t.wanted (kept_of w t)

abbrev pub world_of : Memory → World
world_of m = record { dictionary = m.dictionary; library = m.library; printed = []; called = [] }

abbrev pub from_zero : ℕ → Tally
from_zero created = record { needs = nothing; created = created; wanted = false }

abbrev pub finding_of : Option Meaning → Finding
finding_of None = absent
finding_of (Some (built_in f)) = a_built_in
finding_of (Some (string s)) = a_string (rest_of s)

-- Expand and look: are areas at least as long as their limits? Expand: is the allowance in range?
abbrev pub areas_suffice : Limits → Call → Bool
areas_suffice l (expand a s areas) = nat_le l.store areas.store_area && nat_le l.scan areas.scan_area && nat_le l.print areas.print_area
areas_suffice l (look n area) = nat_le l.store area

abbrev pub allowance_of : Call → ℕ
allowance_of (expand a s areas) = a
allowance_of (look n area) = 0

abbrev pub turned_away : Limits → Call → Option Refusal
turned_away l c = cond (areas_suffice l c) (cond (nat_le (allowance_of c) 1000000) None (Some AllowanceOutOfRange)) (Some AreaTooShort)

-- are all bytes of the source characters or ends of lines?
abbrev pub good_source : Code → Text → Bool
good_source code s = list_all (ranked code) s

abbrev pub carried_out : Code → Limits → Memory → Call → Done
carried_out code l m (expand a s areas) =
    cond (good_source code s)
    (came_to (walk (bounds l a) (from_zero m.created) (expansion code s (world_of m))))
    (unchanged (turned_down ForeignSource) m)
carried_out code l m (look n area) = unchanged (looked (finding_of (look_up code m.dictionary n))) m

abbrev pub unless_away : Option Refusal → Memory → Done → Done
unless_away (Some r) m d = unchanged (turned_down r) m
unless_away None m d = d

abbrev pub done : Code → Limits → Memory → Call → Done
done code l m c = unless_away (turned_away l c) m (carried_out code l m c)

-- Lists of calls: what each answers and leaves, and what lasts after all of them.

abbrev pub history : Code → Limits → Memory → List Call → List After
history code l m [] = []
history code l m (c ∷ cs) = (done code l m c).after ∷ history code l (done code l m c).memory cs

abbrev pub memory_after : Code → Limits → Memory → List Call → Memory
memory_after code l m [] = m
memory_after code l m (c ∷ cs) = memory_after code l (done code l m c).memory cs
