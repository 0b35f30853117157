-- A property of dictionaries that lasts through each edit lasts through each call. Assumes nothing.
use Rattle.std.proofs.Common.{ℕ, zero, suc, ◌+◌, Bool, true, false, ◌&&◌, leb, List, [], ◌∷◌, length, drop, Some, None, Option}
use Rattle.std.proofs.lemmas.Bool.{cond_both}
use Rattle.library.specs.Meaning.{Program, NamedString}
use Rattle.library.specs.Name.{fits_name}
use Rattle.refusal.specs.declared.Refusal.{Refusal}
use Rattle.machine.specs.declared.amounts.Limits.{Limits}
use Rattle.machine.specs.declared.built_in.BuiltIn.{BuiltIn}
use Rattle.machine.specs.declared.built_in.BuiltIn.TheVariants as group
use Rattle.machine.specs.declared.built_in.LibraryFunction.{LibraryFunction}
use Rattle.machine.specs.declared.built_in.LibraryFunction.TheVariants.{Store, Delete, Copy, Names, Pdf}
use Rattle.machine.specs.declared.rule.Rule.{Rule}
use Rattle.machine.specs.declared.rule.Rule.TheVariants.{EndOfLine, Escape, OpenPassive, OpenActive, Bracket, Separator, Close, Other}
use Rattle.machine.specs.Texts.{Text, Code, not_empty, creation, proper_name, proper_body}
use Rattle.machine.specs.Chain.{bounds, Came, gave, stopped, walk}
use Rattle.machine.specs.BuiltIns.{least}
use Rattle.machine.specs.Dictionary.{Dictionary, Meaning, built_in, string, Str, new_string, rest_of, look_up, define}
use Rattle.machine.specs.World.{World, with_dictionary, calling, Value, text, break, Asks, nothing_more, names_and_store, store_only, print_only, Outcome, faults, plans, Ready, asking, running, p1}
use Rattle.machine.specs.Libraries.{program_named, fetching, copy_found, copy_program, retrieve, unless_defined, retrieving}
use Rattle.machine.specs.Functions.{on_library, apply, perform, function}
use Rattle.machine.specs.Scan.{State, inside, called_name, parameters, rule, dropping, match_of, unbracketing, placing, taking, deliver, make_call, by_rule, step, ending, next_step, scanning, at_start, expansion}
use Rattle.machine.specs.Calls.{Call, expand, look, Memory, Done, came_to, world_of, from_zero, turned_away, good_source, carried_out, unless_away, done, memory_after}
use Rattle.machine.proofs.Kept.{Keeps, Kept, kept_by_walk, kept_by_bind}
use Rattle.machine.proofs.Edits.{Lasting, Holds, Leaves, on_dictionary_leaves, on_selection_leaves, on_classes_leaves, on_text_leaves, on_arithmetic_leaves, on_comparison_leaves, on_others_leaves, stored_leaves, deleted_leaves, named_leaves, defined_program_leaves}
use Rattle.std.specs.List.{list_any}

module _ (P : Dictionary → Type 0) where
  -- it holds whether the scan has room or not
  abbrev Readies : Ready → Type 0
  Readies r = Holds P r.after × Holds P r.kept

  -- it holds in a state of the scan
  abbrev In : State → Type 0
  In s = Holds P s.world

  running_keeps : (w : World) (o : Outcome) → Holds P w → Leaves P o → Keeps (Holds P) Readies (running w o)
  running_keeps w (faults f left) h k = k
  running_keeps w (plans p) h k = asked p.asks
    where
      asked : (a : Asks) → Keeps (Holds P) Readies (asking w p a)
      asked nothing_more = (k, h)
      asked names_and_store = (h, (h, (k, h)))
      asked store_only = (h, (k, h))
      asked print_only = (h, (k, h))

  kept_came : (x : Came World State) → Kept (Holds P) In x → P (came_to x).memory.dictionary
  kept_came (gave s t) h = h
  kept_came (stopped r w t) h = h

module _ (code : Code) (P : Dictionary → Type 0) (Good : Str → Type 0) (l : Lasting code P Good) where
  -- FUNCTIONS

  fetching_keeps : (ss : List NamedString) (w : World) → Holds P w → Keeps (Holds P) (Holds P) (fetching code ss w)
  fetching_keeps [] w h = h
  fetching_keeps (s ∷ ss) w h =
      let d = define code s.name (string (new_string s.body)) w.dictionary in
      cond_both (proper_name code s.name && proper_body code s.body) _ _ (Keeps (Holds P) (Holds P))
      (λ e. (h, (h, fetching_keeps ss (with_dictionary d w) (l.defines _ _ _ (l.made _) h)))) (λ e. h)

  copy_keeps : (ps : List Text) (w : World) → Holds P w → Keeps (Holds P) (Readies P) (copy_program code ps w)
  copy_keeps ps w h = cond_both (fits_name (p1 ps)) _ _ (Keeps (Holds P) (Readies P)) (λ e. at (program_named (p1 ps) w.library)) (λ e. h)
    where
      at : (o : Option Program) → Keeps (Holds P) (Readies P) (copy_found code o w)
      at None = h
      at (Some p) = kept_by_bind (Holds P) (Holds P) (Readies P) _ (λ v k. (k, k)) (fetching code p.strings w) (fetching_keeps p.strings w h)

  retrieving_keeps : (n : Text) (w : World) → Holds P w → Keeps (Holds P) (Holds P) (retrieving code n w)
  retrieving_keeps n w h = at (look_up code w.dictionary n)
    where
      from : (o : Option Program) → Keeps (Holds P) (Holds P) (retrieve code o w)
      from None = h
      from (Some p) = fetching_keeps p.strings w h

      at : (o : Option Meaning) → Keeps (Holds P) (Holds P) (unless_defined code o n w)
      at (Some m) = h
      at None = from (program_named n w.library)

  module _ (ps : List Text) (w : World) (h : Holds P w) where
    on_library_keeps : (f : LibraryFunction) → Keeps (Holds P) (Readies P) (on_library code f ps w)
    on_library_keeps Store = running_keeps P w _ h (stored_leaves code P Good l w h ps)
    on_library_keeps Delete = running_keeps P w _ h (deleted_leaves code P Good l w h ps)
    on_library_keeps Copy = copy_keeps ps w h
    on_library_keeps Names = running_keeps P w _ h (named_leaves code P Good l w h ps)
    on_library_keeps Pdf = running_keeps P w _ h (defined_program_leaves code P Good l w h ps)

    apply_keeps : (f : BuiltIn) → Keeps (Holds P) (Readies P) (apply code f ps w)
    apply_keeps (group.Dictionary f) = running_keeps P w _ h (on_dictionary_leaves code P Good l w h f ps)
    apply_keeps (group.Selection f) = running_keeps P w _ h (on_selection_leaves code P Good l w h f ps)
    apply_keeps (group.Text f) = running_keeps P w _ h (on_text_leaves code P Good l w h f ps)
    apply_keeps (group.Class f) = running_keeps P w _ h (on_classes_leaves code P Good l w h f ps)
    apply_keeps (group.Arithmetic f) = running_keeps P w _ h (on_arithmetic_leaves code P Good l w h f ps)
    apply_keeps (group.Comparison f) = running_keeps P w _ h (on_comparison_leaves code P Good l w h f ps)
    apply_keeps (group.Library f) = on_library_keeps f
    apply_keeps (group.Other f) = running_keeps P w _ h (on_others_leaves code P Good l w h f ps)

    perform_keeps : (o : Option Meaning) → Keeps (Holds P) (Readies P) (perform code o ps w)
    perform_keeps None = h
    perform_keeps (Some (built_in f)) = cond_both (leb (least f) (length ps)) _ _ (Keeps (Holds P) (Readies P)) (λ e. apply_keeps f) (λ e. h)
    perform_keeps (Some (string s)) =
        cond_both (list_any (creation code) (rest_of s)) _ _ (Keeps (Holds P) (Readies P)) (λ e. (h, λ n. (h, h))) (λ e. (h, h))

  function_keeps : (n : Text) (ps : List Text) (w : World) → Holds P w → Keeps (Holds P) (Readies P) (function code n ps w)
  function_keeps n ps w h =
      kept_by_bind (Holds P) (Holds P) (Readies P) _ (λ v k. perform_keeps ps v k (look_up code v.dictionary n)) (retrieving code n w) (retrieving_keeps n w h)

  -- THE SCAN

  deliver_keeps : (s : State) (f : Ready) → Readies P f → Keeps (Holds P) (In P) (deliver s f)
  deliver_keeps s f k = (k.1, at f.numbered f.result)
    where
      at : (numbered : Bool) (v : Value) → Keeps (Holds P) (In P) (taking numbered (placing v (calling [] f.after) s))
      at true (text v) = k.0
      at true (break v) = k.0
      at false (text v) = k.0
      at false (break v) = k.0

  call_keeps : (s : State) → In P s → Keeps (Holds P) (In P) (make_call code s)
  call_keeps s h =
      let w = calling (called_name s) s.world in
      kept_by_bind (Holds P) (Readies P) (In P) (deliver s) (deliver_keeps s) (function code (called_name s) (parameters s) w)
      (function_keeps (called_name s) (parameters s) w h)

  by_rule_keeps : (r : Rule) (s : State) → In P s → Keeps (Holds P) (In P) (by_rule code r s)
  by_rule_keeps EndOfLine s h = h
  by_rule_keeps Escape s h = h
  by_rule_keeps OpenPassive s h = (h, h)
  by_rule_keeps OpenActive s h = (h, h)
  by_rule_keeps Bracket s h = at (match_of code false 0 (drop 1 s.right))
    where
      at : (o : Option ℕ) → Keeps (Holds P) (In P) (unbracketing s o)
      at None = h
      at (Some k) = h
  by_rule_keeps Separator s h = (h, h)
  by_rule_keeps Close s h = call_keeps (dropping 1 s) h
  by_rule_keeps Other s h = h

  step_keeps : (s : State) → In P s → Keeps (Holds P) (In P) (step code s)
  unfolding step
  step_keeps s h = by_rule_keeps (rule code (inside s) s.right) s h

  ending_keeps : (s : State) → In P s → Keeps (Holds P) (In P) (ending s)
  ending_keeps s h = cond_both (inside s) _ _ (Keeps (Holds P) (In P)) (λ e. h) (λ e. h)

  scanning_keeps : (more n : ℕ) (s : State) → In P s → Keeps (Holds P) (In P) (scanning code more n s)
  unfolding scanning
  scanning_keeps zero n s h = cond_both (not_empty s.right) _ _ (Keeps (Holds P) (In P)) (λ e. (h, step_keeps s h)) (λ e. ending_keeps s h)
  scanning_keeps (suc more) n s h =
      cond_both (not_empty s.right) _ _ (Keeps (Holds P) (In P))
      (λ e. kept_by_bind (Holds P) (In P) (In P) _ (λ t k. scanning_keeps more (n + 1) t k) (next_step code n s) (h, step_keeps s h))
      (λ e. ending_keeps s h)

  expansion_keeps : (source : Text) (w : World) → Holds P w → Keeps (Holds P) (In P) (expansion code source w)
  unfolding expansion
  expansion_keeps source w h = (h, scanning_keeps 1000000 0 (at_start source w) h)

  -- CALLS

  pub call_lasts : (p : Limits) (m : Memory) (c : Call) → P m.dictionary → P (done code p m c).memory.dictionary
  call_lasts p m c h = go c (turned_away p c)
    where
      go : (c : Call) (o : Option Refusal) → P (unless_away o m (carried_out code p m c)).memory.dictionary
      go (expand a s areas) (Some r) = h
      go (expand a s areas) None =
          let x = expansion code s (world_of m) in
          cond_both (good_source code s) _ _ (λ (d : Done). P d.memory.dictionary)
          (λ e.
          kept_came P (walk (bounds p a) (from_zero m.created) x)
          (kept_by_walk (Holds P) (In P) (bounds p a) (from_zero m.created) x (expansion_keeps s (world_of m) h)))
          (λ e. h)
      go (look n area) (Some r) = h
      go (look n area) None = h

  pub calls_last : (p : Limits) (cs : List Call) (m : Memory) → P m.dictionary → P (memory_after code p m cs).dictionary
  calls_last p [] m h = h
  calls_last p (c ∷ cs) m h = calls_last p cs (done code p m c).memory (call_lasts p m c h)
