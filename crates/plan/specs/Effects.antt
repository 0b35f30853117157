-- What an effect does to the world of the machine. Assumes nothing.
use Rattle.std.specs.Prelude.{◌≡◌, ℕ, ◌≤◌, Bool, true, List, length, ⊤, None, drop}
use Rattle.std.specs.List.{list_all}
use Rattle.library.specs.Keeping.{with_program, without_program, store_refusal, delete_refusal}
use Rattle.library.specs.Meaning.{Library}
use Rattle.library.specs.Name.{fits_name}
use Rattle.machine.specs.Texts.{Text, Code}
use Rattle.machine.specs.Dictionary.{rest_of, new_string, string, built_in, define, with_classes, with_class, class_of, look_up}
use Rattle.machine.specs.World.{World, with_dictionary, with_library, with_string, print_more, Asks, nothing_more, names_and_store, store_only, print_only, parameter, p1, p2}
use Rattle.machine.specs.World as machine
use Rattle.machine.specs.Strings.{appended, erase_all, segmented, with_rest, with_mark}
use Rattle.machine.specs.Classes.{the_bytes, all_but, erase_classes}
use Rattle.machine.specs.Libraries.{program_to_store, is_string}
use Rattle.machine.specs.Functions.{lines}
use Rattle.dictionary.specs.declared.dictionary.Dictionary.{Dictionary}
use Rattle.dictionary.specs.declared.string_place.StringPlace.{StringPlace}
use Rattle.dictionary.specs.Meant.{dictionary_in, classes_in}
use Rattle.dictionary.specs.Finding.{RowAt, Standing}
use Rattle.dictionary.specs.Strings.{place_of, string_in}
use Rattle.plan.specs.declared.effect.Effect.{Effect}
use Rattle.plan.specs.declared.effect.Effect.TheVariants.{Nothing, DefineString, Append, CopyString, CopyBuiltIn, EraseNames, MovePointer, Segment, MarkCreation, DefineClass, DefineClassOfOthers, EraseClasses, Store, Delete, Print, Break}

-- in a code, with the parameters of the call, and the bytes of a store where the places of strings lie
module _ (code : Code) (ps : List Text) (store : List ℕ) where
  -- what has changed
  abbrev pub performed : Effect → World → World
  performed Nothing w = w
  performed DefineString w = with_dictionary (define code (p1 ps) (string (new_string (p2 ps))) w.dictionary) w
  performed (Append s) w = with_string (p1 ps) (appended (p2 ps) (string_in s store)) w
  performed (CopyString s) w = with_dictionary (define code (p1 ps) (string (new_string (rest_of (string_in s store)))) w.dictionary) w
  performed (CopyBuiltIn f) w = with_dictionary (define code (p1 ps) (built_in f) w.dictionary) w
  performed EraseNames w = with_dictionary (erase_all code ps w.dictionary) w
  performed (MovePointer n s to) w = with_string (parameter n ps) (record { body = (string_in s store).body; pointer = to }) w
  performed (Segment s numbered) w = with_string (p1 ps) (with_rest (segmented code ps (string_in s store)).marked_text (string_in s store)) w
  performed (MarkCreation s) w = with_string (p1 ps) (with_rest (with_mark (p2 ps) code.creation_mark (rest_of (string_in s store))) (string_in s store)) w
  performed DefineClass w = with_dictionary (with_classes (with_class (p1 ps) (class_of (the_bytes (p2 ps))) w.dictionary.classes) w.dictionary) w
  performed DefineClassOfOthers w = with_dictionary (with_classes (with_class (p1 ps) (class_of (all_but code (p2 ps))) w.dictionary.classes) w.dictionary) w
  performed EraseClasses w = with_dictionary (with_classes (erase_classes ps w.dictionary.classes) w.dictionary) w
  performed Store w = with_library (with_program w.library (program_to_store code ps w.dictionary)) w
  performed Delete w = with_library (without_program w.library (p1 ps)) w
  performed Print w = print_more (lines code.end_of_line 132 (p1 ps)) w
  performed Break w = w

-- which shortages are asked about before it
abbrev pub asks_of : Effect → Asks
asks_of DefineString = names_and_store
asks_of (Append s) = names_and_store
asks_of (CopyString s) = names_and_store
asks_of (CopyBuiltIn f) = names_and_store
asks_of DefineClass = store_only
asks_of DefineClassOfOthers = store_only
asks_of Print = print_only
asks_of other = nothing_more

-- are there mark numbers enough? Where they run out, the marks before that stand
abbrev pub is_numbered : Effect → Bool
is_numbered (Segment s numbered) = numbered
is_numbered other = true

-- where the text of the value goes
abbrev pub placed_by : Effect → Text → machine.Value
placed_by Break t = machine.break t
placed_by other t = machine.text t

-- What an effect leans on, in a dictionary that lies in a store, and a library.
module _ (code : Code) (ps : List Text) (d : Dictionary) (store : List ℕ) (library : Library) where
  -- all that is to be stored is strings, the name is one that programs can have, and the library refuses it not
  pub record MayStore : Type 0 where
    pub all_strings : list_all (λ n. is_string (look_up code (dictionary_in d store) n)) (drop 1 ps) ≡ true
    pub named : fits_name (p1 ps) ≡ true
    pub granted : store_refusal library (program_to_store code ps (dictionary_in d store)) ≡ None

  pub record MayDelete : Type 0 where
    pub named : fits_name (p1 ps) ≡ true
    pub granted : delete_refusal library (p1 ps) ≡ None

  -- a string is that of a name, and the pointer stays within it
  pub record MayMove (name : Text) (s : StringPlace) (to : ℕ) : Type 0 where
    pub standing : Standing d store name (place_of s)
    pub within : to ≤ s.extent.length

  pub record MaySegment (s : StringPlace) (numbered : Bool) : Type 0 where
    pub standing : Standing d store (p1 ps) (place_of s)
    pub is_known : numbered ≡ (segmented code ps (string_in s store)).numbered

  abbrev pub MayDefineClass : (ℕ → Bool) → Type 0
  MayDefineClass test = length (with_class (p1 ps) (class_of test) (classes_in d store)) ≤ 16

  abbrev pub May : Effect → Type 0
  May (Append s) = Standing d store (p1 ps) (place_of s)
  May (CopyString s) = RowAt d (place_of s)
  May (MovePointer n s to) = MayMove (parameter n ps) s to
  May (Segment s numbered) = MaySegment s numbered
  May (MarkCreation s) = Standing d store (p1 ps) (place_of s)
  May DefineClass = MayDefineClass (the_bytes (p2 ps))
  May DefineClassOfOthers = MayDefineClass (all_but code (p2 ps))
  May Store = MayStore
  May Delete = MayDelete
  May other = ⊤
