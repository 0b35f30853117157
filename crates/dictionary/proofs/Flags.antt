-- The places of the built-ins in the table, and the original that goes where a name is defined or erased.
use Rattle.std.proofs.Common.{◌≡◌, ℕ, zero, suc, ◌<◌, Bool, true, false, cond, not, ◌&&◌, List, [], ◌∷◌, get_or, set, replicate, Some, None, Option, sym, refl, ap, subst, ◌∙◌, arith, ⊎_elim}
use Rattle.std.specs.List.{slice_get, list_all, position}
use Rattle.std.specs.Option.{unwrap_or, option_map}
use Rattle.std.specs.Bool.{then_some}
use Rattle.std.specs.Str.{bytes_eq}
use Rattle.std.proofs.lemmas.Bool.{cases_eq, and_parts}
use Rattle.std.proofs.lemmas.Slice.Eq.{bytes_eq-Decides}
use Rattle.std.proofs.lemmas.Option.{slice_get_within}
use Rattle.std.proofs.lemmas.List.{get_or-set_other, get_or-replicate}
use Rattle.code.specs.Meaning.{CodeLaws, named_char}
use Rattle.machine.specs.declared.built_in.BuiltIn.{BuiltIn}
use Rattle.machine.specs.declared.built_in.BuiltIn.TheVariants as group
use Rattle.machine.specs.declared.built_in.DictionaryFunction.TheVariants.{Ds, Ap, Es, Cf, Ss, Sc, Cr}
use Rattle.machine.specs.declared.built_in.SelectionFunction.TheVariants.{Cc, Cn, Sn, Isc, Scn, Cp, Cs, Rrp, Eos}
use Rattle.machine.specs.declared.built_in.TextFunction.TheVariants.{Gn, Flip, Trl, Norm}
use Rattle.machine.specs.declared.built_in.ClassFunction.TheVariants.{Dcl, Dncl, Ecl, Ccl, Scl, Tcl}
use Rattle.machine.specs.declared.built_in.ArithmeticFunction.TheVariants.{Ad, Su, Mu, Dv, Dvr, Abs}
use Rattle.machine.specs.declared.built_in.ComparisonFunction.TheVariants.{Eq, Gt, Lt, EqText, GtText, LtText}
use Rattle.machine.specs.declared.built_in.LibraryFunction.TheVariants.{Store, Delete, Copy, Names, Pdf}
use Rattle.machine.specs.declared.built_in.OtherFunction.TheVariants.{Ndf, Ps, Break}
use Rattle.machine.specs.Texts.{Text, Code, spelled}
use Rattle.machine.specs.BuiltIns.{letters, all_built_ins, name_of, first_named, built_in_named}
use Rattle.machine.specs.Dictionary.{built_in, if_stands, without_original}
use Rattle.built_ins.specs.Places.{StandsAt, PlacesDiffer}
use Rattle.dictionary.specs.Meant.{place, stands}

pub listed : (f : BuiltIn) → slice_get all_built_ins (place f) ≡ Some f
unfolding place
listed (group.Dictionary Ds) = refl
listed (group.Dictionary Ap) = refl
listed (group.Dictionary Es) = refl
listed (group.Dictionary Cf) = refl
listed (group.Dictionary Ss) = refl
listed (group.Dictionary Sc) = refl
listed (group.Dictionary Cr) = refl
listed (group.Selection Cc) = refl
listed (group.Selection Cn) = refl
listed (group.Selection Sn) = refl
listed (group.Selection Isc) = refl
listed (group.Selection Scn) = refl
listed (group.Selection Cp) = refl
listed (group.Selection Cs) = refl
listed (group.Selection Rrp) = refl
listed (group.Selection Eos) = refl
listed (group.Text Gn) = refl
listed (group.Text Flip) = refl
listed (group.Text Trl) = refl
listed (group.Text Norm) = refl
listed (group.Class Dcl) = refl
listed (group.Class Dncl) = refl
listed (group.Class Ecl) = refl
listed (group.Class Ccl) = refl
listed (group.Class Scl) = refl
listed (group.Class Tcl) = refl
listed (group.Arithmetic Ad) = refl
listed (group.Arithmetic Su) = refl
listed (group.Arithmetic Mu) = refl
listed (group.Arithmetic Dv) = refl
listed (group.Arithmetic Dvr) = refl
listed (group.Arithmetic Abs) = refl
listed (group.Comparison Eq) = refl
listed (group.Comparison Gt) = refl
listed (group.Comparison Lt) = refl
listed (group.Comparison EqText) = refl
listed (group.Comparison GtText) = refl
listed (group.Comparison LtText) = refl
listed (group.Library Store) = refl
listed (group.Library Delete) = refl
listed (group.Library Copy) = refl
listed (group.Library Names) = refl
listed (group.Library Pdf) = refl
listed (group.Other Ndf) = refl
listed (group.Other Ps) = refl
listed (group.Other Break) = refl

pub place_within : (f : BuiltIn) → place f < 46
place_within f = slice_get_within all_built_ins (place f) f (listed f)

-- two built-ins of one name are one, and so are two of one place
same_place : (f g : BuiltIn) → place f ≡ place g → f ≡ g
same_place f g e =
    let both : Some f ≡ Some g = sym (listed f) ∙ ap (slice_get all_built_ins) e ∙ listed g in
    cc

same_letters : (f g : BuiltIn) → letters f ≡ letters g → f ≡ g
unfolding place
same_letters f g e = same_place f g (ap (λ (l : List ℕ). unwrap_or (position (λ h. bytes_eq (letters h) l) all_built_ins) 46) e)

-- a test that each element passes
passed : {X : Type 0} (p : X → Bool) (xs : List X) (k : ℕ) (x : X) → list_all p xs ≡ true → slice_get xs k ≡ Some x → p x ≡ true
passed p [] k x h e = absurd (none_some (e))
  where
    none_some : {Y : Type 0} {y : Y} → None ≡ Some y → ⊥
    none_some e = let z : ◌≡◌ {A = ℕ} 0 1 = cc in absurd (omega arith)
passed p (y ∷ ys) zero x h e =
    let here : y ≡ x = cc in
    subst (λ z. p z ≡ true) here (and_parts (p y) (list_all p ys) h).0
passed p (y ∷ ys) (suc k) x h e = passed p ys k x (and_parts (p y) (list_all p ys) h).1 e

all_named : list_all (λ f. list_all named_char (letters f)) all_built_ins ≡ true
all_named = refl

letters_named : (f : BuiltIn) → list_all named_char (letters f) ≡ true
letters_named f = passed (λ g. list_all named_char (letters g)) all_built_ins (place f) f all_named (listed f)

-- named characters that are spelled alike are alike
spelled_alike : (code : Code) → CodeLaws code → (xs ys : List ℕ) → list_all named_char xs ≡ true → list_all named_char ys ≡ true → spelled code xs ≡ spelled code ys → xs ≡ ys
spelled_alike code laws [] [] hx hy e = refl
spelled_alike code laws [] (y ∷ ys) hx hy e = cc
spelled_alike code laws (x ∷ xs) [] hx hy e = cc
spelled_alike code laws (x ∷ xs) (y ∷ ys) hx hy e =
    let px = and_parts (named_char x) (list_all named_char xs) hx in
    let py = and_parts (named_char y) (list_all named_char ys) hy in
    let heads : code.named x ≡ code.named y = cc in
    let tails : spelled code xs ≡ spelled code ys = cc in
    let here : x ≡ y = laws.named_apart x y px.0 py.0 heads in
    let there : xs ≡ ys = spelled_alike code laws xs ys px.1 py.1 tails in
    cc

same_name : (code : Code) → CodeLaws code → (f g : BuiltIn) → name_of code f ≡ name_of code g → f ≡ g
same_name code laws f g e = same_letters f g (spelled_alike code laws (letters f) (letters g) (letters_named f) (letters_named g) e)

-- what is found has that name, and where nothing is found none has it
found_named : (code : Code) (n : Text) (fs : List BuiltIn) (f : BuiltIn) → first_named code n fs ≡ Some f → name_of code f ≡ n
found_named code n [] f e = cc
found_named code n (g ∷ fs) f e = go (bytes_eq (name_of code g) n) refl e (found_named code n fs f)
  where
    go : (t : Bool) → bytes_eq (name_of code g) n ≡ t → cond t (Some g) (first_named code n fs) ≡ Some f → (first_named code n fs ≡ Some f → name_of code f ≡ n) → name_of code f ≡ n
    go true p q k =
        let same_function : g ≡ f = cc in
        ap (name_of code) (sym same_function) ∙ (bytes_eq-Decides (name_of code g) n).0 p
    go false p q k = k q

none_named : (code : Code) (n : Text) (fs : List BuiltIn) (k : ℕ) (g : BuiltIn) → first_named code n fs ≡ None → slice_get fs k ≡ Some g → bytes_eq (name_of code g) n ≡ false
none_named code n [] k g e at = cc
none_named code n (f ∷ fs) zero g e at =
    let here : f ≡ g = cc in
    subst (λ h. bytes_eq (name_of code h) n ≡ false) here (go (bytes_eq (name_of code f) n) refl e)
  where
    go : (t : Bool) → bytes_eq (name_of code f) n ≡ t → cond t (Some f) (first_named code n fs) ≡ None → bytes_eq (name_of code f) n ≡ false
    go true p q = cc
    go false p q = p
none_named code n (f ∷ fs) (suc k) g e at = go (bytes_eq (name_of code f) n) e (λ q. none_named code n fs k g q at)
  where
    go : (t : Bool) → cond t (Some f) (first_named code n fs) ≡ None → (first_named code n fs ≡ None → bytes_eq (name_of code g) n ≡ false) → bytes_eq (name_of code g) n ≡ false
    go true q k = cc
    go false q k = k q

and_yes : (b : Bool) → b ≡ b && true
and_yes true = refl
and_yes false = refl

and_no : (b : Bool) → false ≡ b && false
and_no true = refl
and_no false = refl

dropped : (flags : List Bool) (k : ℕ) → get_or (set flags k false) k false ≡ false
dropped [] k = refl
dropped (b ∷ bs) zero = refl
dropped (b ∷ bs) (suc k) = dropped bs k

-- where no built-in has the name, all stand as before
pub none_goes : (code : Code) (n : Text) (flags : List Bool) → built_in_named code n ≡ None → (g : BuiltIn) → stands flags g ≡ without_original code n (stands flags) g
none_goes code n flags e g =
    and_yes (stands flags g) ∙ ap (λ t. stands flags g && not t) (sym (none_named code n all_built_ins (place g) g e (listed g)))

-- where one has it, its stands is taken down
pub one_goes : (code : Code) → CodeLaws code → (n : Text) (flags : List Bool) (f : BuiltIn) → built_in_named code n ≡ Some f → (g : BuiltIn) → stands (set flags (place f) false) g ≡ without_original code n (stands flags) g
one_goes code laws n flags f e g = ⊎_elim same other (cases_eq (place g) (place f))
  where
    is : name_of code f ≡ n
    is = found_named code n all_built_ins f e

    same : place g ≡ place f → stands (set flags (place f) false) g ≡ without_original code n (stands flags) g
    same p =
        let named_so : bytes_eq (name_of code g) n ≡ true = (bytes_eq-Decides (name_of code g) n).1 (ap (name_of code) (same_place g f p) ∙ is) in
        ap (λ k. get_or (set flags (place f) false) k false) p ∙ dropped flags (place f)
        ∙ and_no (stands flags g) ∙ ap (λ t. stands flags g && not t) (sym named_so)

    differs : (t : Bool) → (place g ≡ place f → ⊥) → bytes_eq (name_of code g) n ≡ t → bytes_eq (name_of code g) n ≡ false
    differs true p q = absurd (p (ap place (same_name code laws g f ((bytes_eq-Decides (name_of code g) n).0 q ∙ sym is))))
    differs false p q = q

    other : (place g ≡ place f → ⊥) → stands (set flags (place f) false) g ≡ without_original code n (stands flags) g
    other p =
        get_or-set_other flags (place f) (place g) false false p
        ∙ and_yes (stands flags g) ∙ ap (λ t. stands flags g && not t) (sym (differs (bytes_eq (name_of code g) n) p refl))

-- forty-six flags that are up
pub all_up : (f : BuiltIn) → stands (replicate 46 true) f ≡ true
all_up f = get_or-replicate 46 (place f) true false (place_within f)

-- a built-in stands at its place alone
pub place_is : (f : BuiltIn) (k : ℕ) → PlacesDiffer → StandsAt f k → k ≡ place f
place_is f k differ at = differ.one_place f k (place f) at (listed f)

-- what a name means as an original
pub original_is : (code : Code) (n : Text) (flags : List Bool) (f : BuiltIn) (k : ℕ) (r : Option BuiltIn) → built_in_named code n ≡ Some f → k ≡ place f → r ≡ then_some (get_or flags k false) f → option_map built_in r ≡ if_stands (stands flags) (built_in_named code n)
original_is code n flags f k r named at r_is =
    ap (option_map built_in) (r_is ∙ ap (λ j. then_some (get_or flags j false) f) at)
    ∙ either (stands flags f)
    ∙ sym (ap (if_stands (stands flags)) named)
  where
    either : (t : Bool) → option_map built_in (then_some t f) ≡ cond t (Some (built_in f)) None
    either true = refl
    either false = refl

pub no_original : (code : Code) (n : Text) (flags : List Bool) (r : Option BuiltIn) → built_in_named code n ≡ None → r ≡ None → option_map built_in r ≡ if_stands (stands flags) (built_in_named code n)
no_original code n flags r named r_is = ap (option_map built_in) r_is ∙ sym (ap (if_stands (stands flags)) named)
