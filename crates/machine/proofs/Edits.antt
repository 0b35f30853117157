-- A property of dictionaries that lasts through each edit lasts through each built-in function. Assumes nothing.
use Rattle.std.proofs.Common.{◌≡◌, ℕ, ◌≤◌, Bool, false, not, ◌&&◌, leb, List, [], ◌∷◌, map, length, drop, ℤ, pos, nat_abs, is_some, Some, None, Option, refl, le_refl, arith}
use Rattle.std.proofs.lemmas.Bool.{cond_both, and_parts}
use Rattle.library.specs.Meaning.{Program, NamedString}
use Rattle.library.specs.Name.{fits_name}
use Rattle.library.specs.Keeping.{fits, space_of}
use Rattle.machine.specs.declared.built_in.BuiltIn.{BuiltIn}
use Rattle.machine.specs.declared.built_in.DictionaryFunction.{DictionaryFunction}
use Rattle.machine.specs.declared.built_in.DictionaryFunction.TheVariants.{Ds, Ap, Es, Cf, Ss, Sc, Cr}
use Rattle.machine.specs.declared.built_in.SelectionFunction.{SelectionFunction}
use Rattle.machine.specs.declared.built_in.SelectionFunction.TheVariants.{Cc, Cn, Sn, Isc, Scn, Cp, Cs, Rrp, Eos}
use Rattle.machine.specs.declared.built_in.TextFunction.{TextFunction}
use Rattle.machine.specs.declared.built_in.TextFunction.TheVariants.{Gn, Flip, Trl, Norm}
use Rattle.machine.specs.declared.built_in.ClassFunction.{ClassFunction}
use Rattle.machine.specs.declared.built_in.ClassFunction.TheVariants.{Dcl, Dncl, Ecl, Ccl, Scl, Tcl}
use Rattle.machine.specs.declared.built_in.ArithmeticFunction.{ArithmeticFunction}
use Rattle.machine.specs.declared.built_in.ArithmeticFunction.TheVariants.{Ad, Su, Mu, Dv, Dvr, Abs}
use Rattle.machine.specs.declared.built_in.ComparisonFunction.{ComparisonFunction}
use Rattle.machine.specs.declared.built_in.ComparisonFunction.TheVariants.{Eq, Gt, Lt, EqText, GtText, LtText}
use Rattle.machine.specs.declared.built_in.OtherFunction.{OtherFunction}
use Rattle.machine.specs.declared.built_in.OtherFunction.TheVariants.{Ndf, Ps, Break}
use Rattle.machine.specs.Texts.{Text, Code, not_empty, segment, proper_name, begins, found_at}
use Rattle.machine.specs.Faults.{Fault, foreign_text}
use Rattle.machine.specs.Dictionary.{Dictionary, Meaning, built_in, string, Str, rest_of, new_string, in_classes, with_class, without_class, with_classes, class_of, look_up, define, change, erase}
use Rattle.machine.specs.Numbers.{Numeral, read_integer, written}
use Rattle.machine.specs.World.{World, Outcome, faults, plans, provided, valued, if_string, of_string, p1, p2}
use Rattle.machine.specs.Strings.{appended, append_to, erase_all, copy_to, with_rest, segmented, segment_string, on_dictionary}
use Rattle.machine.specs.Selection.{moved, call_characters, skip_characters, if_count, before_match, up_to, on_selection}
use Rattle.machine.specs.TextFunctions.{give_by, on_text}
use Rattle.machine.specs.Classes.{the_bytes, all_but, define_class, erase_classes, if_class, of_class, in_class, on_classes}
use Rattle.machine.specs.Arithmetic.{if_two, of_two, if_one, divides, on_arithmetic}
use Rattle.machine.specs.Comparisons.{on_comparison}
use Rattle.machine.specs.Libraries.{has_program, program_named, is_string, program_to_store, store_program, delete_program, if_program, with_commas, string_names, program_defined}
use Rattle.machine.specs.Functions.{on_others}
use Rattle.machine.proofs.Passing.{Room, bytes_within, begun_within, run_within, first_room, zero_level_room, found_room}
use Rattle.std.specs.List.{list_all}

-- P lasts through each edit of a dictionary; Good is what it asks of the strings
pub record Lasting (code : Code) (P : Dictionary → Type 0) (Good : Str → Type 0) : Type 0 where
  -- strings: new, with the pointer further on, with more behind, with another rest
  pub made : (t : Text) → Good (new_string t)
  pub passed : (s : Str) (k : ℕ) → Good s → k ≤ length (rest_of s) → Good (moved k s)
  pub lengthened : (s : Str) (t : Text) → Good s → Good (appended t s)
  pub rewritten : (s : Str) (t : Text) → Good s → Good (with_rest t s)
  -- a string that is found
  pub found : (d : Dictionary) (n : Text) (s : Str) → P d → look_up code d n ≡ Some (string s) → Good s
  -- the edits
  pub defines : (d : Dictionary) (n : Text) (s : Str) → Good s → P d → P (define code n (string s) d)
  pub copies : (d : Dictionary) (n : Text) (f : BuiltIn) → P d → P (define code n (built_in f) d)
  pub changes : (d : Dictionary) (n : Text) (s : Str) → Good s → P d → P (change n s d)
  pub erases : (d : Dictionary) (n : Text) → P d → P (erase code n d)
  pub classes : (d : Dictionary) (n : Text) (members : List Bool) → P d → P (with_classes (with_class n members d.classes) d)
  pub unclasses : (d : Dictionary) (n : Text) → P d → P (with_classes (without_class n d.classes) d)

module _ (P : Dictionary → Type 0) where
  abbrev pub Holds : World → Type 0
  Holds w = P w.dictionary

  -- it holds of what is left behind
  abbrev pub Leaves : Outcome → Type 0
  Leaves (faults f w) = Holds w
  Leaves (plans p) = Holds p.after

module _ (code : Code) (P : Dictionary → Type 0) (Good : Str → Type 0) (l : Lasting code P Good) (w : World) (h : Holds P w) where
  if_so : (t : Bool) (f : Fault) (o : Outcome) → Leaves P o → Leaves P (provided t f w o)
  if_so t f o k = cond_both t _ _ (Leaves P) (λ e. k) (λ e. h)

  -- the string of a name
  if_found : (n : Text) (go : Str → Outcome) → ((s : Str) → Good s → Leaves P (go s)) → Leaves P (of_string code n w go)
  if_found n go k = at (look_up code w.dictionary n) refl
    where
      at : (o : Option Meaning) → look_up code w.dictionary n ≡ o → Leaves P (if_string o w go)
      at None e = h
      at (Some (built_in f)) e = h
      at (Some (string s)) e = k s (l.found _ n s h e)

  -- DS AP ES CF SS SC CR

  all_erased : (ns : List Text) (d : Dictionary) → P d → P (erase_all code ns d)
  all_erased [] d k = k
  all_erased (n ∷ ns) d k = all_erased ns (erase code n d) (l.erases d n k)

  segmented_leaves : (ps : List Text) (value : ℕ → Text) → Leaves P (segment_string code ps w value)
  segmented_leaves ps value =
      if_found (p1 ps) _ (λ s g.
      let k = l.changes w.dictionary (p1 ps) _ (l.rewritten s (segmented code ps s).marked_text g) h in
      cond_both (segmented code ps s).numbered _ _ (Leaves P) (λ e. k) (λ e. k))

  pub on_dictionary_leaves : (f : DictionaryFunction) (ps : List Text) → Leaves P (on_dictionary code f ps w)
  on_dictionary_leaves Ds ps = l.defines _ _ _ (l.made _) h
  on_dictionary_leaves Ap ps = at (look_up code w.dictionary (p1 ps)) refl
    where
      at : (o : Option Meaning) → look_up code w.dictionary (p1 ps) ≡ o → Leaves P (append_to code ps w o)
      at None e = l.defines _ _ _ (l.made _) h
      at (Some (built_in f)) e = h
      at (Some (string s)) e = l.changes _ _ _ (l.lengthened s _ (l.found _ _ s h e)) h
  on_dictionary_leaves Es ps = all_erased ps w.dictionary h
  on_dictionary_leaves Cf ps = at (look_up code w.dictionary (p2 ps))
    where
      at : (o : Option Meaning) → Leaves P (copy_to code ps w o)
      at None = h
      at (Some (built_in f)) = l.copies _ _ f h
      at (Some (string s)) = l.defines _ _ _ (l.made _) h
  on_dictionary_leaves Ss ps = segmented_leaves ps (λ places. [])
  on_dictionary_leaves Sc ps = segmented_leaves ps (λ places. written code (pos places))
  on_dictionary_leaves Cr ps = if_found (p1 ps) _ (λ s g. l.changes _ _ _ (l.rewritten s _ g) h)

  -- CC CN SN ISC SCN CP CS RRP EOS

  passes : (n : Text) (s : Str) (k : ℕ) → Good s → k ≤ length (rest_of s) → P (change n (moved k s) w.dictionary)
  passes n s k g le = l.changes _ n _ (l.passed s k g le) h

  call_leaves : (k : ℕ) (n : Text) → Leaves P (call_characters code k n w)
  call_leaves k n = if_found n _ (λ s g. passes n s _ g (bytes_within code k (rest_of s)))

  skip_leaves : (k : ℕ) (n : Text) → Leaves P (skip_characters code k n w)
  skip_leaves k n = if_found n _ (λ s g. passes n s _ g (bytes_within code k (rest_of s)))

  if_counted : (o : Option Numeral) (go : ℕ → Outcome) → ((n : ℕ) → Leaves P (go n)) → Leaves P (if_count o w go)
  if_counted None go k = h
  if_counted (Some n) go k = if_so (not n.signs) _ _ (if_so (leb n.digits 9) _ _ (k (nat_abs n.value)))

  up_to_leaves : (n : Text) (s : Str) (o : Option ℕ) → Good s → Room 1 (length (rest_of s)) o → Leaves P (up_to code n s w o)
  up_to_leaves n s None g r = passes n s _ g (le_refl _)
  up_to_leaves n s (Some k) g r = passes n s _ g (omega arith)

  pub on_selection_leaves : (f : SelectionFunction) (ps : List Text) → Leaves P (on_selection code f ps w)
  on_selection_leaves Cc ps = call_leaves 1 (p1 ps)
  on_selection_leaves Cn ps = if_counted (read_integer code (p1 ps)) _ (λ n. call_leaves n (p2 ps))
  on_selection_leaves Sn ps = if_counted (read_integer code (p1 ps)) _ (λ n. skip_leaves n (p2 ps))
  on_selection_leaves Isc ps =
      if_found (p2 ps) _ (λ s g.
      cond_both (not_empty (p1 ps) && begins (p1 ps) (rest_of s)) _ _ (Leaves P)
      (λ e. passes _ s _ g (begun_within (p1 ps) (rest_of s) (and_parts _ _ e).1)) (λ e. h))
  on_selection_leaves Scn ps = if_found (p2 ps) _ (λ s g. at s g (found_at (p1 ps) (rest_of s)) (found_room (p1 ps) (rest_of s)))
    where
      at : (s : Str) → Good s → (o : Option ℕ) → Room (length (p1 ps)) (length (rest_of s)) o → Leaves P (before_match code ps s w o)
      at s g None r = h
      at s g (Some k) r = passes _ s _ g r
  on_selection_leaves Cp ps = if_found (p1 ps) _ (λ s g. up_to_leaves _ s _ g (zero_level_room code false 0 (rest_of s)))
  on_selection_leaves Cs ps = if_found (p1 ps) _ (λ s g. up_to_leaves _ s _ g (first_room (segment code) (rest_of s)))
  on_selection_leaves Rrp ps = if_found (p1 ps) _ (λ s g. l.changes _ _ _ (l.made _) h)
  on_selection_leaves Eos ps = if_found (p1 ps) _ (λ s g. h)

  -- DCL DNCL ECL CCL SCL TCL

  defined_leaves : (ps : List Text) (test : ℕ → Bool) → Leaves P (define_class ps test w)
  defined_leaves ps test = if_so (leb (length (with_class (p1 ps) (class_of test) w.dictionary.classes)) 16) _ _ (l.classes _ _ _ h)

  all_unclassed : (ns : List Text) (d : Dictionary) → P d → P (with_classes (erase_classes ns d.classes) d)
  all_unclassed [] d k = k
  all_unclassed (n ∷ ns) d k = all_unclassed ns (with_classes (without_class n d.classes) d) (l.unclasses d n k)

  if_classed : (ps : List Text) (go : List Bool → Str → Outcome) → ((members : List Bool) (s : Str) → Good s → Leaves P (go members s)) →
      Leaves P (of_class code ps w go)
  if_classed ps go k = at (in_classes (p1 ps) w.dictionary.classes)
    where
      at : (o : Option (List Bool)) → Leaves P (if_class o w (λ members. of_string code (p2 ps) w (go members)))
      at None = h
      at (Some members) = if_found (p2 ps) _ (k members)

  pub on_classes_leaves : (f : ClassFunction) (ps : List Text) → Leaves P (on_classes code f ps w)
  on_classes_leaves Dcl ps = defined_leaves ps (the_bytes (p2 ps))
  on_classes_leaves Dncl ps = defined_leaves ps (all_but code (p2 ps))
  on_classes_leaves Ecl ps = all_unclassed ps w.dictionary h
  on_classes_leaves Ccl ps = if_classed ps _ (λ members s g. passes _ s _ g (run_within (in_class code members) (rest_of s)))
  on_classes_leaves Scl ps = if_classed ps _ (λ members s g. passes _ s _ g (run_within (in_class code members) (rest_of s)))
  on_classes_leaves Tcl ps = if_classed ps _ (λ members s g. h)

  -- GN FLIP TRL NORM, and what else leaves the dictionary as it is

  pub on_text_leaves : (f : TextFunction) (ps : List Text) → Leaves P (on_text code f ps w)
  on_text_leaves Gn ps = at (read_integer code (p1 ps))
    where
      at : (o : Option Numeral) → Leaves P (give_by o (p2 ps) w)
      at None = h
      at (Some n) = if_so (leb n.digits 9) _ _ h
  on_text_leaves Flip ps = h
  on_text_leaves Trl ps = h
  on_text_leaves Norm ps = h

  if_integers : (x y : Option Numeral) (m n : ℕ) (go : ℤ → ℤ → Outcome) → ((a b : ℤ) → Leaves P (go a b)) → Leaves P (if_two x y m n w go)
  if_integers None y m n go k = h
  if_integers (Some x) None m n go k = h
  if_integers (Some x) (Some y) m n go k = if_so (leb x.digits m && leb y.digits n) _ _ (k _ _)

  of_integers : (ps : List Text) (m n : ℕ) (go : ℤ → ℤ → Outcome) → ((a b : ℤ) → Leaves P (go a b)) → Leaves P (of_two code ps m n w go)
  of_integers ps m n = if_integers (read_integer code (p1 ps)) (read_integer code (p2 ps)) m n

  pub on_arithmetic_leaves : (f : ArithmeticFunction) (ps : List Text) → Leaves P (on_arithmetic code f ps w)
  on_arithmetic_leaves Ad ps = of_integers ps 15 15 _ (λ a b. h)
  on_arithmetic_leaves Su ps = of_integers ps 15 15 _ (λ a b. h)
  on_arithmetic_leaves Mu ps = of_integers ps 9 9 _ (λ a b. h)
  on_arithmetic_leaves Dv ps = of_integers ps 18 15 _ (λ a b. if_so (divides a b) _ _ h)
  on_arithmetic_leaves Dvr ps = of_integers ps 18 15 _ (λ a b. if_so (divides a b) _ _ h)
  on_arithmetic_leaves Abs ps = at (read_integer code (p1 ps))
    where
      at : (o : Option Numeral) → Leaves P (if_one o 15 w (λ x. valued (written code (pos (nat_abs x))) w))
      at None = h
      at (Some n) = if_so (leb n.digits 15) _ _ h

  pub on_comparison_leaves : (f : ComparisonFunction) (ps : List Text) → Leaves P (on_comparison code f ps w)
  on_comparison_leaves Eq ps = of_integers ps 15 15 _ (λ a b. h)
  on_comparison_leaves Gt ps = of_integers ps 15 15 _ (λ a b. h)
  on_comparison_leaves Lt ps = of_integers ps 15 15 _ (λ a b. h)
  on_comparison_leaves EqText ps = h
  on_comparison_leaves GtText ps = h
  on_comparison_leaves LtText ps = h

  pub on_others_leaves : (f : OtherFunction) (ps : List Text) → Leaves P (on_others code f ps w)
  on_others_leaves Ndf ps = h
  on_others_leaves Ps ps = h
  on_others_leaves Break ps = h

  -- STORE DELETE NAMES PDF

  pub stored_leaves : (ps : List Text) → Leaves P (store_program code ps w)
  stored_leaves ps =
      if_so (list_all (λ n. is_some (look_up code w.dictionary n)) (drop 1 ps)) _ _
      (if_so (list_all (λ n. is_string (look_up code w.dictionary n)) (drop 1 ps)) _ _
      (if_so (fits_name (p1 ps)) _ _
      (if_so (not w.library.locked) _ _
      (if_so (not (has_program (p1 ps) w.library)) _ _
      (if_so (fits (space_of (program_to_store code ps w.dictionary)) w.library.space) _ _ h)))))

  pub deleted_leaves : (ps : List Text) → Leaves P (delete_program ps w)
  deleted_leaves ps =
      if_so (fits_name (p1 ps)) _ _ (if_so (not w.library.locked) _ _ (if_so (has_program (p1 ps) w.library) _ _ h))

  pub named_leaves : (ps : List Text) → Leaves P (string_names code ps w)
  named_leaves ps = if_so (fits_name (p1 ps)) _ _ (at (program_named (p1 ps) w.library))
    where
      listed : Program → Outcome
      listed p =
          let names = map (λ (s : NamedString). s.name) p.strings in
          provided (list_all (proper_name code) names) foreign_text w (valued (with_commas (code.named 44) names) w)

      at : (o : Option Program) → Leaves P (if_program o w listed)
      at None = h
      at (Some p) = if_so (list_all (proper_name code) (map (λ (s : NamedString). s.name) p.strings)) _ _ h

  pub defined_program_leaves : (ps : List Text) → Leaves P (program_defined ps w)
  defined_program_leaves ps = if_so (fits_name (p1 ps)) _ _ h
