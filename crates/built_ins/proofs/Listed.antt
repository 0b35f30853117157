-- Where the built-in functions stand in their list.
use Rattle.std.proofs.Common.{◌≡◌, ℕ, zero, suc, ◌+◌, ◌<◌, Bool, true, cond, not, List, [], ◌∷◌, map, length, slice_get, get_or, ltb, ◌==◌, Some, None, refl, sym, ap, ◌∙◌, arith}
use Rattle.std.specs.List.{position_or_len}
use Rattle.std.proofs.lemmas.Bool.{lt-ltb, eqb-true}
use Rattle.code.specs.Laws.{any, every_at}
use Rattle.built_ins.specs.Places.{StandsAt, PlacesDiffer}
use Rattle.std.proofs.lemmas.Option.{none-some, slice_get_within, get_or_from_slice_get}
use Rattle.std.proofs.lemmas.List.{map-id, length-map}
use Rattle.machine.specs.contracts.built_in.BuiltInPartialEq.TheImpl as equality
use Rattle.machine.specs.declared.built_in.BuiltIn.{BuiltIn}
use Rattle.machine.specs.declared.built_in.BuiltIn.TheVariants as group
use Rattle.machine.specs.declared.built_in.DictionaryFunction.TheVariants.{Ds, Ap, Es, Cf, Ss, Sc, Cr}
use Rattle.machine.specs.declared.built_in.SelectionFunction.TheVariants.{Cc, Cn, Sn, Isc, Scn, Cp, Cs, Rrp, Eos}
use Rattle.machine.specs.declared.built_in.TextFunction.TheVariants.{Gn, Flip, Trl, Norm}
use Rattle.machine.specs.declared.built_in.ClassFunction.TheVariants.{Dcl, Dncl, Ecl, Ccl, Scl, Tcl}
use Rattle.machine.specs.declared.built_in.ArithmeticFunction.TheVariants.{Ad, Su, Mu, Dv, Dvr, Abs}
use Rattle.machine.specs.declared.built_in.ComparisonFunction.TheVariants.{Eq, Gt, Lt, EqText, GtText, LtText}
use Rattle.machine.specs.declared.built_in.LibraryFunction.TheVariants.{Store, Delete, Copy, Names, Pdf}
use Rattle.machine.specs.declared.built_in.OtherFunction.TheVariants.{Ndf, Ps, Break}
use Rattle.machine.specs.BuiltIns.{all_built_ins, least}
use Rattle.built_ins.specs.declared.table.BuiltInEntry.{BuiltInEntry}
use Rattle.built_ins.specs.Rows.{Row, row_of}
use Rattle.built_ins.specs.Entries.{entry_row}

map_map : {X Y Z : Type 0} (g : Y → Z) (h : X → Y) (xs : List X) → map g (map h xs) ≡ map (λ x. g (h x)) xs
map_map g h [] = refl
map_map g h (x ∷ xs) = ap (λ ys. g (h x) ∷ ys) (map_map g h xs)

-- `==` of built-in functions
abbrev pub same : BuiltIn → BuiltIn → Bool
same f g = equality.ghosts.eq f g

-- each stands where `position` finds it
pub stands : (f : BuiltIn) → slice_get all_built_ins (position_or_len (λ g. same g f) all_built_ins) ≡ Some f
stands (group.Dictionary Ds) = refl
stands (group.Dictionary Ap) = refl
stands (group.Dictionary Es) = refl
stands (group.Dictionary Cf) = refl
stands (group.Dictionary Ss) = refl
stands (group.Dictionary Sc) = refl
stands (group.Dictionary Cr) = refl
stands (group.Selection Cc) = refl
stands (group.Selection Cn) = refl
stands (group.Selection Sn) = refl
stands (group.Selection Isc) = refl
stands (group.Selection Scn) = refl
stands (group.Selection Cp) = refl
stands (group.Selection Cs) = refl
stands (group.Selection Rrp) = refl
stands (group.Selection Eos) = refl
stands (group.Text Gn) = refl
stands (group.Text Flip) = refl
stands (group.Text Trl) = refl
stands (group.Text Norm) = refl
stands (group.Class Dcl) = refl
stands (group.Class Dncl) = refl
stands (group.Class Ecl) = refl
stands (group.Class Ccl) = refl
stands (group.Class Scl) = refl
stands (group.Class Tcl) = refl
stands (group.Arithmetic Ad) = refl
stands (group.Arithmetic Su) = refl
stands (group.Arithmetic Mu) = refl
stands (group.Arithmetic Dv) = refl
stands (group.Arithmetic Dvr) = refl
stands (group.Arithmetic Abs) = refl
stands (group.Comparison Eq) = refl
stands (group.Comparison Gt) = refl
stands (group.Comparison Lt) = refl
stands (group.Comparison EqText) = refl
stands (group.Comparison GtText) = refl
stands (group.Comparison LtText) = refl
stands (group.Library Store) = refl
stands (group.Library Delete) = refl
stands (group.Library Copy) = refl
stands (group.Library Names) = refl
stands (group.Library Pdf) = refl
stands (group.Other Ndf) = refl
stands (group.Other Ps) = refl
stands (group.Other Break) = refl

-- where `position` finds it
abbrev pub place : BuiltIn → ℕ
place f = position_or_len (λ g. same g f) all_built_ins

-- the functions of the entries, and the entry at a place
functions_are : (es : List BuiltInEntry) (fs : List BuiltIn) → map entry_row es ≡ map row_of fs → map (λ e. e.function) es ≡ fs
functions_are es fs h = sym (map_map (λ r. r.function) entry_row es) ∙ ap (map (λ (r : Row). r.function)) h ∙ map_map (λ r. r.function) row_of fs ∙ map-id fs

position_map : {X Y : Type 0} (h : X → Y) (t : Y → Bool) (xs : List X) → position_or_len (λ x. t (h x)) xs ≡ position_or_len t (map h xs)
position_map h t [] = refl
position_map h t (x ∷ xs) = ap (λ n. cond (not (t (h x))) (1 + n) 0) (position_map h t xs)

pub position_is : (es : List BuiltInEntry) (f : BuiltIn) → map entry_row es ≡ map row_of all_built_ins
    → cond (ltb (position_or_len (λ e. same e.function f) es) (length es)) (Some (position_or_len (λ e. same e.function f) es)) None ≡ Some (place f)
position_is es f h =
    let functions : map (λ e. e.function) es ≡ all_built_ins = functions_are es all_built_ins h in
    let there : position_or_len (λ e. same e.function f) es ≡ place f = position_map (λ e. e.function) (λ g. same g f) es ∙ ap (position_or_len (λ g. same g f)) functions in
    let size : length es ≡ 46 = sym (length-map es (λ e. e.function)) ∙ ap length functions in
    let inside : ltb (place f) 46 ≡ true = lt-ltb _ _ (slice_get_within all_built_ins (place f) f (stands f)) in
    rw (there, size, inside) refl

pub stands_at : (f : BuiltIn) (i : ℕ) → Some (place f) ≡ Some i → slice_get all_built_ins i ≡ Some f
stands_at f i e =
    let there : place f ≡ i = cc in
    rw (← there) (stands f)

one_function : (f g : BuiltIn) (i : ℕ) → StandsAt f i → StandsAt g i → f ≡ g
one_function f g i e h = cc

-- at each place stands the function of that place
place_at : (d : BuiltIn) (i : ℕ) → i < 46 → (place (get_or all_built_ins i d) == i) ≡ true
place_at d i h = every_at 46 any (λ k. place (get_or all_built_ins k d) == k) refl i h refl

place_from_get : (f : BuiltIn) (i : ℕ) → StandsAt f i → place f ≡ i
place_from_get f i e =
    ap place (sym (get_or_from_slice_get all_built_ins i f f e)) ∙ eqb-true _ i (place_at f i (slice_get_within all_built_ins i f e))

pub places_differ : PlacesDiffer
places_differ = record {
  one_function = one_function;
  one_place = λ f i j e h. sym (place_from_get f i e) ∙ place_from_get f j h;
}

-- what the entry at a place says
entry_at : (es : List BuiltInEntry) (fs : List BuiltIn) → map entry_row es ≡ map row_of fs → (i : ℕ) (f : BuiltIn) (d : BuiltInEntry) → slice_get fs i ≡ Some f
    → entry_row (get_or es i d) ≡ row_of f
entry_at es [] h i f d e = absurd (none-some f e)
entry_at [] (g ∷ fs) h i f d e = absurd (omega (arith, ap length h))
entry_at (x ∷ es) (g ∷ fs) h zero f d e =
    let here : g ≡ f = cc in
    let first : entry_row x ≡ row_of g = cc in
    first ∙ ap row_of here
entry_at (x ∷ es) (g ∷ fs) h (suc i) f d e =
    let rest : map entry_row es ≡ map row_of fs = cc in
    entry_at es fs rest i f d e

pub least_at : (es : List BuiltInEntry) → map entry_row es ≡ map row_of all_built_ins → (i : ℕ) (f : BuiltIn) (d : BuiltInEntry) → slice_get all_built_ins i ≡ Some f
    → (get_or es i d).least ≡ least f
least_at es h i f d e = ap (λ (r : Row). r.least) (entry_at es all_built_ins h i f d e)
