-- Classes that are found, and edits of them.
use Rattle.std.proofs.Common.{◌≡◌, ℕ, ◌+◌, ◌-◌, ◌<◌, ◌≤◌, Bool, true, false, List, [], ◌∷◌, ◌++◌, length, get_or, set, take, drop, Some, None, sym, refl, ap, subst, ◌∙◌, add-one, arith, length-drop, length-append}
use Rattle.std.specs.Prelude.{vec_items, vec_len}
use Rattle.std.specs.List.{sum_by, splice, remove, slice_get}
use Rattle.std.specs.Option.{option_map}
use Rattle.std.specs.Str.{bytes_eq}
use Rattle.std.proofs.lemmas.List.{take_all, drop-take, length-take, length-take-le, drop-drop}
use Rattle.std.proofs.lemmas.List.Sums.{sum_by-take-le, sum_by_push, sum_by-set, sum_by-cons}
use Rattle.std.proofs.lemmas.Option.{slice_get_within, slice_get-get_or}
use Rattle.std.proofs.lemmas.Slice.Eq.{bytes_eq-Decides}
use Rattle.machine.specs.Texts.{Text, first_place}
use Rattle.machine.specs.Dictionary.{Class, in_classes, with_class, without_class, bytes_in, with_classes}
use Rattle.dictionary.specs.declared.rows.ClassRow.{ClassRow}
use Rattle.dictionary.specs.declared.class_place.ClassPlace.{ClassPlace}
use Rattle.dictionary.specs.declared.dictionary.Dictionary.{Dictionary}
use Rattle.dictionary.specs.Decoding.{packed, row_size, row_in, class_size, class_in}
use Rattle.dictionary.specs.Meant.{text_in, rows_in, classes_in, dictionary_in}
use Rattle.dictionary.specs.Finding.{class_named, ClassStanding}
use Rattle.dictionary.proofs.Packed.{packed_front, nth_packed, length_packed, packed_set, replaced}
use Rattle.dictionary.proofs.Sizes.{rows_framed, classes_framed, class_measure, bytes_used}
use Rattle.dictionary.proofs.Firsts.{first_at, none_more, first_passes, first_within, in_classes_at, with_class_at, with_class_new, without_class_at}
use Rattle.dictionary.proofs.Located.{sum_next}
use Rattle.dictionary.proofs.Edited.{push_spliced, remove_spliced, sum_spliced}
use Rattle.dictionary.proofs.Changed.{splice_behind, splice_rest}

abbrev class_of : Text → List Bool → Class
class_of n m = record { name = n; members = m }

abbrev pub names_before : Dictionary → ℕ → ℕ
names_before d i = sum_by class_size (take i (vec_items d.classes))

-- the bytes of the classes' names are those of the store
names_of_store : (d : Dictionary) (store : List ℕ) → d.used ≤ length store → classes_in d store ≡ packed class_size class_in (vec_items d.classes) (drop d.row_bytes store)
names_of_store d store h =
    let k : ℕ = sum_by class_size (vec_items d.classes) in
    ap (packed class_size class_in (vec_items d.classes)) (ap (λ n. drop d.row_bytes (take n store)) d.classes_filled ∙ drop-take d.row_bytes k store)
    ∙ packed_front class_size class_in (vec_items d.classes) (drop d.row_bytes store) k classes_framed (omega arith) (rw length-drop (omega (arith, d.classes_filled)))

-- class i of the dictionary
pub record ClassRead (d : Dictionary) (store : List ℕ) (i : ℕ) (c : ClassRow) : Type 0 where
  pub within : d.row_bytes + names_before d i + c.name ≤ d.used
  pub next : names_before d (i + 1) ≡ names_before d i + c.name
  pub there : slice_get (classes_in d store) i ≡ Some (class_in c (drop (d.row_bytes + names_before d i) store))

pub class_read : (d : Dictionary) (store : List ℕ) (i : ℕ) (c : ClassRow) → slice_get (vec_items d.classes) i ≡ Some c → d.used ≤ length store → ClassRead d store i c
class_read d store i c at h =
    let step : names_before d (i + 1) ≡ names_before d i + c.name = sum_next class_size (vec_items d.classes) i c at in
    record {
      within = omega (arith, sum_by-take-le class_size (vec_items d.classes) (i + 1), d.classes_filled);
      next = step;
      there = ap (λ (cs : List Class). slice_get cs i) (names_of_store d store h)
          ∙ nth_packed class_size class_in i (vec_items d.classes) (drop d.row_bytes store)
          ∙ ap (option_map (λ (c : ClassRow). class_in c (drop (names_before d i) (drop d.row_bytes store)))) at
          ∙ ap (λ (x : List ℕ). Some (class_in c x)) (drop-drop (names_before d i) d.row_bytes store);
    }

-- a class that the loop comes to: the name that is read of the store is the class's
pub record ClassCome (d : Dictionary) (store : List ℕ) (n : Text) (i start : ℕ) (c : ClassRow) : Type 0 where
  pub at : slice_get (vec_items d.classes) i ≡ Some c
  pub start_is : start ≡ d.row_bytes + names_before d i
  pub none : first_place (class_named n) (take i (classes_in d store)) ≡ None
  pub whole : d.used ≤ length store

pub class_come : (d : Dictionary) (store : List ℕ) (n : Text) (i start : ℕ) (c e : ClassRow) (classes : List ClassRow) → classes ≡ vec_items d.classes → i < length classes → c ≡ get_or classes i e → start ≡ d.row_bytes + names_before d i → first_place (class_named n) (take i (classes_in d store)) ≡ None → d.used ≤ length store → ClassCome d store n i start c
class_come d store n i start c e classes same within is start_is none whole =
    record {
      at = ap (λ (cs : List ClassRow). slice_get cs i) (sym same) ∙ slice_get-get_or classes i e within ∙ ap (λ x. Some x) (sym is);
      start_is = start_is;
      none = none;
      whole = whole;
    }

named_so : (d : Dictionary) (store : List ℕ) (n : Text) (i start : ℕ) (c : ClassRow) (t : Bool) → start ≡ d.row_bytes + names_before d i → bytes_eq (take ((start + c.name) - start) (drop start store)) n ≡ t → class_named n (class_in c (drop (d.row_bytes + names_before d i) store)) ≡ t
named_so d store n i start c t e h =
    let long : (start + c.name) - start ≡ c.name = omega arith in
    ap (λ k. bytes_eq (take c.name (drop k store)) n) (sym e) ∙ ap (λ k. bytes_eq (take k (drop start store)) n) (sym long) ∙ h

pub class_found : (d : Dictionary) (store : List ℕ) (n : Text) (i start : ℕ) (c : ClassRow) → ClassCome d store n i start c → bytes_eq (take ((start + c.name) - start) (drop start store)) n ≡ true → ClassStanding d store n (record { index = i; start = start })
class_found d store n i start c come h =
    let there = class_read d store i c come.at come.whole in
    record {
      first = first_at (class_named n) (classes_in d store) i _ come.none there.there (named_so d store n i start c true come.start_is h);
      start = come.start_is;
    }

pub class_passed : (d : Dictionary) (store : List ℕ) (n : Text) (i start : ℕ) (c : ClassRow) → ClassCome d store n i start c → bytes_eq (take ((start + c.name) - start) (drop start store)) n ≡ false → first_place (class_named n) (take (i + 1) (classes_in d store)) ≡ None
class_passed d store n i start c come h =
    let there = class_read d store i c come.at come.whole in
    ap (λ k. first_place (class_named n) (take k (classes_in d store))) (add-one i)
    ∙ none_more (class_named n) (classes_in d store) i _ come.none there.there (named_so d store n i start c false come.start_is h)

pub counted : (d : Dictionary) (store : List ℕ) → length (classes_in d store) ≡ length (vec_items d.classes)
counted d store = length_packed class_size class_in (vec_items d.classes) (drop d.row_bytes (text_in d store))

-- no class at all has the name
pub no_class_named : (d : Dictionary) (store : List ℕ) (n : Text) (i : ℕ) → length (vec_items d.classes) ≤ i → first_place (class_named n) (take i (classes_in d store)) ≡ None → first_place (class_named n) (classes_in d store) ≡ None
no_class_named d store n i h none =
    let l = counted d store in
    ap (first_place (class_named n)) (sym (take_all i (classes_in d store) (omega arith))) ∙ none

-- the class that is found
pub record ClassThere (d : Dictionary) (store : List ℕ) (n : Text) (p : ClassPlace) : Type 0 where
  pub index : p.index < vec_len d.classes
  pub members : (c : ClassRow) → c ≡ get_or (vec_items d.classes) p.index c → Some c.members ≡ in_classes n (classes_in d store)

pub class_there : (d : Dictionary) (store : List ℕ) (n : Text) (p : ClassPlace) → d.used ≤ length store → ClassStanding d store n p → ClassThere d store n p
class_there d store n p h stands =
    let within : p.index < length (vec_items d.classes) = omega (arith, first_within (class_named n) (classes_in d store) p.index stands.first, counted d store) in
    record {
      index = omega (arith, d.classes.ok.0);
      members = λ c is.
          let there = class_read d store p.index c (slice_get-get_or (vec_items d.classes) p.index c within ∙ ap (λ x. Some x) (sym is)) h in
          sym (in_classes_at n (classes_in d store) p.index stands.first ∙ ap (option_map (λ (c : Class). c.members)) there.there);
    }

-- Classes and bytes that come of those of a dictionary: what they mean, and that the rows are as they were.
pub record ClassesEdited (d : Dictionary) (store : List ℕ) (classes : List ClassRow) (used : ℕ) (text : List ℕ) (meant : List Class) : Type 0 where
  pub classes_are : packed class_size class_in classes (drop d.row_bytes text) ≡ meant
  pub rows_are : packed row_size row_in (vec_items d.rows) text ≡ rows_in d store
  pub filled : used ≡ d.row_bytes + sum_by class_size classes

-- bytes that are edited behind those of the rows
rows_same : (d : Dictionary) (store : List ℕ) (u v : ℕ) (bytes text : List ℕ) → d.used ≤ length store → d.row_bytes + u ≤ d.used → text ≡ splice (text_in d store) (d.row_bytes + u) (d.row_bytes + v) bytes → packed row_size row_in (vec_items d.rows) text ≡ rows_in d store
rows_same d store u v bytes text h l text_is =
    let t : List ℕ = text_in d store in
    let R : ℕ = d.row_bytes in
    let tl : length t ≡ d.used = length-take-le d.used store h in
    let front : take R text ≡ take R t = ap (take R) text_is ∙ splice_behind t R u v bytes (omega arith) in
    let size : sum_by row_size (vec_items d.rows) ≤ R = omega (arith, d.rows_filled) in
    let long : R ≤ length text = omega (arith, ap length front, length-take-le R t (omega arith), length-take R text) in
    sym (packed_front row_size row_in (vec_items d.rows) text R rows_framed size long)
    ∙ ap (packed row_size row_in (vec_items d.rows)) front
    ∙ packed_front row_size row_in (vec_items d.rows) t R rows_framed size (omega arith)

-- the classes from i to j, and their bytes, give way to others
class_edited : (d : Dictionary) (store : List ℕ) (i j : ℕ) (classes fs : List ClassRow) (used : ℕ) (text bytes : List ℕ) → d.used ≤ length store → i ≤ j → j ≤ length (vec_items d.classes) → sum_by class_size fs ≡ length bytes → classes ≡ splice (vec_items d.classes) i j fs → text ≡ splice (text_in d store) (d.row_bytes + names_before d i) (d.row_bytes + names_before d j) bytes → used + names_before d j ≡ d.used + length bytes + names_before d i → ClassesEdited d store classes used text (splice (classes_in d store) i j (packed class_size class_in fs bytes))
class_edited d store i j classes fs used text bytes h ij jl filled classes_are text_is size =
    let cs : List ClassRow = vec_items d.classes in
    let t : List ℕ = text_in d store in
    let tl : length t ≡ d.used = length-take-le d.used store h in
    let bi : d.row_bytes + names_before d i ≤ d.used = omega (arith, sum_by-take-le class_size cs i, d.classes_filled) in
    record {
      classes_are = ap (λ (cs : List ClassRow). packed class_size class_in cs (drop d.row_bytes text)) classes_are
          ∙ ap (packed class_size class_in (splice cs i j fs))
          (ap (drop d.row_bytes) text_is ∙ splice_rest t d.row_bytes (names_before d i) (names_before d j) bytes (omega arith))
          ∙ replaced class_size class_in i j cs fs (drop d.row_bytes t) bytes classes_framed (omega arith) (rw length-drop (omega arith)) filled;
      rows_are = rows_same d store (names_before d i) (names_before d j) bytes text h bi text_is;
      filled = omega (arith, sum_spliced class_size cs i j fs, ap (sum_by class_size) classes_are, d.classes_filled);
    }

meant_so : (d : Dictionary) (store : List ℕ) (classes : List ClassRow) (used : ℕ) (text : List ℕ) (ms ns : List Class) → ms ≡ ns → ClassesEdited d store classes used text ms → ClassesEdited d store classes used text ns
meant_so d store classes used text ms ns e h = subst (ClassesEdited d store classes used text) e h

-- a class comes last
pub class_added : (d : Dictionary) (store : List ℕ) (n : Text) (c : ClassRow) (classes : List ClassRow) (used : ℕ) (text : List ℕ) → d.used ≤ length store → first_place (class_named n) (classes_in d store) ≡ None → c.name ≡ length n → classes ≡ vec_items d.classes ++ c ∷ [] → text ≡ splice (text_in d store) d.used d.used n → used ≡ d.used + length n → ClassesEdited d store classes used text (with_class n c.members (classes_in d store))
class_added d store n c classes used text h none size classes_are text_is used_is =
    let i : ℕ = length (vec_items d.classes) in
    let all : d.used ≡ d.row_bytes + names_before d i = d.classes_filled ∙ ap (λ (cs : List ClassRow). d.row_bytes + sum_by class_size cs) (sym (take_all i (vec_items d.classes) (omega arith))) in
    let named : class_in c n ≡ class_of n c.members = ap (λ (x : Text). class_of x c.members) (take_all c.name n (omega arith)) in
    meant_so d store classes used text _ _
    (ap (λ k. splice (classes_in d store) k k (class_in c n ∷ [])) (sym (counted d store))
    ∙ sym (push_spliced (classes_in d store) (class_in c n))
    ∙ ap (λ (x : Class). classes_in d store ++ x ∷ []) named
    ∙ sym (with_class_new n c.members (classes_in d store) none))
    (class_edited d store i i classes (c ∷ []) used text n h (omega arith) (omega arith) (omega (arith, sum_by-cons class_size c []))
    (classes_are ∙ push_spliced (vec_items d.classes) c)
    (text_is ∙ ap (λ k. splice (text_in d store) k k n) all)
    (omega arith))

-- the class that is found, with its row
pub record ClassRowThere (d : Dictionary) (store : List ℕ) (n : Text) (p : ClassPlace) (c : ClassRow) : Type 0 where
  pub at : slice_get (vec_items d.classes) p.index ≡ Some c
  pub within : p.start + c.name ≤ d.used
  pub named : take c.name (drop p.start store) ≡ n
  pub size : c.name ≡ length n

pub class_row_there : (d : Dictionary) (store : List ℕ) (n : Text) (p : ClassPlace) (e : ClassRow) → d.used ≤ length store → ClassStanding d store n p → ClassRowThere d store n p (get_or (vec_items d.classes) p.index e)
class_row_there d store n p e h stands =
    let c : ClassRow = get_or (vec_items d.classes) p.index e in
    let within : p.index < length (vec_items d.classes) = omega (arith, first_within (class_named n) (classes_in d store) p.index stands.first, counted d store) in
    let at : slice_get (vec_items d.classes) p.index ≡ Some c = slice_get-get_or (vec_items d.classes) p.index e within in
    let there = class_read d store p.index c at h in
    let passes = first_passes (class_named n) (classes_in d store) p.index _ stands.first there.there in
    let named : take c.name (drop p.start store) ≡ n =
    ap (λ k. take c.name (drop k store)) stands.start ∙ (bytes_eq-Decides (take c.name (drop (d.row_bytes + names_before d p.index) store)) n).0 passes in
    record {
      at = at;
      within = omega (arith, there.within, stands.start);
      named = named;
      size = sym (length-take-le c.name (drop p.start store) (rw length-drop (omega (arith, there.within, stands.start)))) ∙ ap length named;
    }

-- a class goes
pub class_removed : (d : Dictionary) (store : List ℕ) (n : Text) (p : ClassPlace) (e : ClassRow) (classes : List ClassRow) (used : ℕ) (text : List ℕ) → d.used ≤ length store → ClassStanding d store n p → classes ≡ remove (vec_items d.classes) p.index → text ≡ splice (text_in d store) p.start (p.start + length n) [] → used + length n ≡ d.used → ClassesEdited d store classes used text (without_class n (classes_in d store))
class_removed d store n p e classes used text h stands classes_are text_is used_is =
    let i : ℕ = p.index in
    let here = class_row_there d store n p e h stands in
    let there = class_read d store i _ here.at h in
    let within : i < length (vec_items d.classes) = slice_get_within (vec_items d.classes) i _ here.at in
    let ends : p.start + length n ≡ d.row_bytes + names_before d (i + 1) = omega (arith, there.next, stands.start, here.size) in
    meant_so d store classes used text _ _ (sym (without_class_at n (classes_in d store) i stands.first ∙ remove_spliced (classes_in d store) i))
    (class_edited d store i (i + 1) classes [] used text [] h (omega arith) (omega arith) refl
    (classes_are ∙ remove_spliced (vec_items d.classes) i)
    (text_is ∙ ap (λ k. splice (text_in d store) k (p.start + length n) []) stands.start ∙ ap (λ k. splice (text_in d store) (d.row_bytes + names_before d i) k []) ends)
    (omega (arith, there.next, here.size)))

-- a class has other members
pub class_changed : (d : Dictionary) (store : List ℕ) (n : Text) (p : ClassPlace) (e f : ClassRow) → d.used ≤ length store → ClassStanding d store n p → f.name ≡ (get_or (vec_items d.classes) p.index e).name → ClassesEdited d store (set (vec_items d.classes) p.index f) d.used (text_in d store) (with_class n f.members (classes_in d store))
class_changed d store n p e f h stands same =
    let i : ℕ = p.index in
    let c : ClassRow = get_or (vec_items d.classes) i e in
    let here = class_row_there d store n p e h stands in
    let within : i < length (vec_items d.classes) = slice_get_within (vec_items d.classes) i _ here.at in
    let bytes : List ℕ = drop (names_before d i) (drop d.row_bytes (text_in d store)) in
    let there : slice_get (classes_in d store) i ≡ Some (class_in c bytes) =
    nth_packed class_size class_in i (vec_items d.classes) (drop d.row_bytes (text_in d store)) ∙ ap (option_map (λ (c : ClassRow). class_in c bytes)) here.at in
    let named : take f.name bytes ≡ n = ap (λ k. take k bytes) same ∙ (bytes_eq-Decides (take c.name bytes) n).0 (first_passes (class_named n) (classes_in d store) i _ stands.first there) in
    record {
      classes_are = packed_set class_size class_in i (vec_items d.classes) (drop d.row_bytes (text_in d store)) c f here.at same
          ∙ ap (λ (x : Text). set (classes_in d store) i (class_of x f.members)) named
          ∙ sym (with_class_at n f.members (classes_in d store) i stands.first);
      rows_are = refl;
      filled = omega (arith, d.classes_filled, sum_by-set class_size (vec_items d.classes) i f e within);
    }

-- room for a class of a name that is absent
pub record RoomForClass (d : Dictionary) (store : List ℕ) (n : Text) : Type 0 where
  pub few : vec_len d.classes < 16
  pub fits : d.used + length n ≤ length store

pub room_for_class : (d : Dictionary) (store : List ℕ) (n : Text) (m : List Bool) → d.used ≤ length store → first_place (class_named n) (classes_in d store) ≡ None → length (with_class n m (classes_in d store)) ≤ 16 → bytes_in (with_classes (with_class n m (classes_in d store)) (dictionary_in d store)) ≤ length store → RoomForClass d store n
room_for_class d store n m h none few fits =
    let more : with_class n m (classes_in d store) ≡ classes_in d store ++ class_of n m ∷ [] = with_class_new n m (classes_in d store) none in
    record {
      few = omega (arith, ap length more, length-append (classes_in d store) (class_of n m ∷ []), counted d store, d.classes.ok.0);
      fits = omega (arith, ap (sum_by class_measure) more, sum_by_push class_measure (classes_in d store) (class_of n m), bytes_used d store h);
    }
