-- No call moves a residual pointer past its body. Assumes nothing.
use Rattle.std.proofs.Common.{Bool, List, [], ◌∷◌, take, Some, None, Option, subst, le_refl, arith, length-append, length-drop, length-take}
use Rattle.std.specs.Option.{option_or}
use Rattle.std.specs.Str.{bytes_eq}
use Rattle.std.proofs.lemmas.Bool.{cond_both}
use Rattle.machine.specs.declared.built_in.BuiltIn.{BuiltIn}
use Rattle.machine.specs.Texts.{Text, Code}
use Rattle.machine.specs.BuiltIns.{built_in_named}
use Rattle.machine.specs.Dictionary.{Dictionary, new_dictionary, Row, Meaning, built_in, string, in_rows, with_row, without_row, if_stands, look_up}
use Rattle.machine.specs.Calls.{new}
use Rattle.machine.specs.Invariants.{PointerWithin, PointersWithin, CallsKeepPointersWithin, PointersAreAlwaysWithin}
use Rattle.machine.proofs.Edits.{Lasting}
use Rattle.machine.proofs.AllCalls.{call_lasts, calls_last}

-- ROWS

with_within : (n : Text) (m : Meaning) → PointerWithin m → (rs : List Row) → PointersWithin rs → PointersWithin (with_row n m rs)
with_within n m g [] h = (g, tt)
with_within n m g (r ∷ rs) h = cond_both (bytes_eq r.name n) _ _ PointersWithin (λ e. (g, h.1)) (λ e. (h.0, with_within n m g rs h.1))

without_within : (n : Text) (rs : List Row) → PointersWithin rs → PointersWithin (without_row n rs)
without_within n [] h = tt
without_within n (r ∷ rs) h = cond_both (bytes_eq r.name n) _ _ PointersWithin (λ e. h.1) (λ e. (h.0, without_within n rs h.1))

-- what a name means, if anything
abbrev Within : Option Meaning → Type 0
Within None = Unit {0}
Within (Some m) = PointerWithin m

row_within : (n : Text) (rs : List Row) → PointersWithin rs → Within (in_rows n rs)
row_within n [] h = tt
row_within n (r ∷ rs) h = cond_both (bytes_eq r.name n) _ _ Within (λ e. h.0) (λ e. row_within n rs h.1)

original_within : (stands : BuiltIn → Bool) (o : Option BuiltIn) → Within (if_stands stands o)
original_within stands None = tt
original_within stands (Some f) = cond_both (stands f) _ _ Within (λ e. tt) (λ e. tt)

either_within : (a b : Option Meaning) → Within a → Within b → Within (option_or a b)
either_within None b h k = k
either_within (Some m) b h k = h

meaning_within : (code : Code) (d : Dictionary) (n : Text) → PointersWithin d.rows → Within (look_up code d n)
meaning_within code d n h = either_within (in_rows n d.rows) _ (row_within n d.rows h) (original_within d.originals (built_in_named code n))

-- ALL CALLS

abbrev RowsWithin : Dictionary → Type 0
RowsWithin d = PointersWithin d.rows

within_lasts : (code : Code) → Lasting code RowsWithin (λ s. PointerWithin (string s))
within_lasts code =
    record {
      made = λ t. omega arith;
      passed = λ s k g le. omega (arith, length-drop s.pointer s.body);
      lengthened = λ s t g. le_refl _;
      rewritten = λ s t g. omega (arith, length-append (take s.pointer s.body) t, length-take s.pointer s.body);
      found = λ d n s h e. subst Within e (meaning_within code d n h);
      defines = λ d n s g h. with_within n (string s) g d.rows h;
      copies = λ d n f h. with_within n (built_in f) tt d.rows h;
      changes = λ d n s g h. with_within n (string s) g d.rows h;
      erases = λ d n h. without_within n d.rows h;
      classes = λ d n m h. h;
      unclasses = λ d n h. h;
    }

pub calls_within : CallsKeepPointersWithin
calls_within code = call_lasts code RowsWithin (λ s. PointerWithin (string s)) (within_lasts code)

new_within : RowsWithin new_dictionary
unfolding new_dictionary
new_within = tt

pub always_within : PointersAreAlwaysWithin
always_within code l p cs = calls_last code RowsWithin (λ s. PointerWithin (string s)) (within_lasts code) p cs (new l) new_within
