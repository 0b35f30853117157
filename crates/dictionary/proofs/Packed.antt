-- Entries that lie one behind the other.
use Rattle.std.proofs.Common.{◌≡◌, ℕ, zero, suc, ◌+◌, ◌≤◌, List, [], ◌∷◌, ◌++◌, length, set, take, drop, Some, sym, refl, ap, ◌∙◌, arith, length-drop}
use Rattle.std.specs.List.{slice_get, sum_by, splice}
use Rattle.std.specs.Option.{option_map}
use Rattle.std.proofs.lemmas.List.{drop-drop, drop-append-le, nil_from_length, take-append-drop, take_at, length-take-le}
use Rattle.std.proofs.lemmas.List.Sums.{sum_by-cons}
use Rattle.dictionary.specs.Decoding.{packed}

-- what is read of an entry depends on its own bytes alone
pub record Framed {E X : Type 0} (size : E → ℕ) (read : E → List ℕ → X) : Type 0 where
  pub same : (e : E) (bs cs : List ℕ) → size e ≤ length bs → read e (bs ++ cs) ≡ read e bs

pub length_packed : {E X : Type 0} (size : E → ℕ) (read : E → List ℕ → X) (es : List E) (bs : List ℕ) → length (packed size read es bs) ≡ length es
length_packed size read [] bs = refl
length_packed size read (e ∷ es) bs = ap suc (length_packed size read es (drop (size e) bs))

-- the entries from i on
pub drop_packed : {E X : Type 0} (size : E → ℕ) (read : E → List ℕ → X) (i : ℕ) (es : List E) (bs : List ℕ) → drop i (packed size read es bs) ≡ packed size read (drop i es) (drop (sum_by size (take i es)) bs)
drop_packed size read zero es bs = refl
drop_packed size read (suc k) [] bs = refl
drop_packed size read (suc k) (e ∷ es) bs =
    let sizes : sum_by size (e ∷ take k es) ≡ size e + sum_by size (take k es) = sum_by-cons size e (take k es) in
    drop_packed size read k es (drop (size e) bs)
    ∙ ap (λ (x : List ℕ). packed size read (drop k es) x) (drop-drop (sum_by size (take k es)) (size e) bs ∙ ap (λ (j : ℕ). drop j bs) (sym sizes))

-- what is first behind n elements
slice_get-drop : {X : Type 0} (n : ℕ) (xs : List X) → slice_get xs n ≡ slice_get (drop n xs) 0
slice_get-drop zero xs = refl
slice_get-drop (suc n) [] = refl
slice_get-drop (suc n) (x ∷ xs) = slice_get-drop n xs

-- entry i, if there is one
pub nth_packed : {E X : Type 0} (size : E → ℕ) (read : E → List ℕ → X) (i : ℕ) (es : List E) (bs : List ℕ) → slice_get (packed size read es bs) i ≡ option_map (λ (e : E). read e (drop (sum_by size (take i es)) bs)) (slice_get es i)
nth_packed {E = E} {X = X} size read i es bs =
    slice_get-drop i (packed size read es bs)
    ∙ ap (λ (x : List X). slice_get x 0) (drop_packed size read i es bs)
    ∙ first (drop i es) (drop (sum_by size (take i es)) bs)
    ∙ ap (option_map (λ (e : E). read e (drop (sum_by size (take i es)) bs))) (sym (slice_get-drop i es))
  where
    first : (fs : List E) (cs : List ℕ) → slice_get (packed size read fs cs) 0 ≡ option_map (λ (e : E). read e cs) (slice_get fs 0)
    first [] cs = refl
    first (f ∷ fs) cs = refl

-- entries one after another
pub packed_++ : {E X : Type 0} (size : E → ℕ) (read : E → List ℕ → X) (es fs : List E) (bs cs : List ℕ) → Framed size read → sum_by size es ≡ length bs → packed size read (es ++ fs) (bs ++ cs) ≡ packed size read es bs ++ packed size read fs cs
packed_++ size read [] fs bs cs framed h =
    ap (λ (x : List ℕ). packed size read fs (x ++ cs)) (nil_from_length bs (sym h))
packed_++ size read (e ∷ es) fs bs cs framed h =
    let sizes : sum_by size (e ∷ es) ≡ size e + sum_by size es = sum_by-cons size e es in
    let n : ℕ = size e in
    let hn : n ≤ length bs = omega arith in
    let here : read e (bs ++ cs) ≡ read e bs = framed.same e bs cs hn in
    let rest : packed size read (es ++ fs) (drop n (bs ++ cs)) ≡ packed size read es (drop n bs) ++ packed size read fs cs =
    ap (packed size read (es ++ fs)) (drop-append-le n bs cs hn)
    ∙ packed_++ size read es fs (drop n bs) cs framed (rw length-drop (omega arith)) in
    cc

-- more bytes behind do not matter
pub packed_append : {E X : Type 0} (size : E → ℕ) (read : E → List ℕ → X) (es : List E) (bs cs : List ℕ) → Framed size read → sum_by size es ≤ length bs → packed size read es (bs ++ cs) ≡ packed size read es bs
packed_append size read [] bs cs framed h = refl
packed_append size read (e ∷ es) bs cs framed h =
    let sizes : sum_by size (e ∷ es) ≡ size e + sum_by size es = sum_by-cons size e es in
    let n : ℕ = size e in
    let hn : n ≤ length bs = omega arith in
    let here : read e (bs ++ cs) ≡ read e bs = framed.same e bs cs hn in
    let rest : packed size read es (drop n (bs ++ cs)) ≡ packed size read es (drop n bs) =
    ap (packed size read es) (drop-append-le n bs cs hn)
    ∙ packed_append size read es (drop n bs) cs framed (rw length-drop (omega arith)) in
    cc

-- only their own bytes matter
pub packed_front : {E X : Type 0} (size : E → ℕ) (read : E → List ℕ → X) (es : List E) (bs : List ℕ) (n : ℕ) → Framed size read → sum_by size es ≤ n → n ≤ length bs → packed size read es (take n bs) ≡ packed size read es bs
packed_front size read es bs n framed h l =
    sym (ap (packed size read es) (sym (take-append-drop n bs))
    ∙ packed_append size read es (take n bs) (drop n bs) framed (omega (arith, length-take-le n bs l)))

-- the entries before i
pub take_packed : {E X : Type 0} (size : E → ℕ) (read : E → List ℕ → X) (i : ℕ) (es : List E) (bs : List ℕ) → Framed size read → i ≤ length es → sum_by size (take i es) ≤ length bs → packed size read (take i es) (take (sum_by size (take i es)) bs) ≡ take i (packed size read es bs)
take_packed {E = E} {X = X} size read i es bs framed h l =
    let o : ℕ = sum_by size (take i es) in
    let front : List X = packed size read (take i es) (take o bs) in
    let rest : List X = packed size read (drop i es) (drop o bs) in
    let whole : packed size read es bs ≡ front ++ rest =
    ap (λ (x : List E). packed size read x bs) (sym (take-append-drop i es))
    ∙ ap (λ (x : List ℕ). packed size read (take i es ++ drop i es) x) (sym (take-append-drop o bs))
    ∙ packed_++ size read (take i es) (drop i es) (take o bs) (drop o bs) framed (sym (length-take-le o bs l)) in
    sym (ap (take i) whole ∙ take_at front rest i (length_packed size read (take i es) (take o bs) ∙ length-take-le i es h))

-- the entries from i to j give way to others
pub replaced : {E X : Type 0} (size : E → ℕ) (read : E → List ℕ → X) (i j : ℕ) (es fs : List E) (bs cs : List ℕ) → Framed size read → i ≤ length es → sum_by size (take i es) ≤ length bs → sum_by size fs ≡ length cs → packed size read (splice es i j fs) (splice bs (sum_by size (take i es)) (sum_by size (take j es)) cs) ≡ splice (packed size read es bs) i j (packed size read fs cs)
replaced {E = E} {X = X} size read i j es fs bs cs framed h l filled =
    let o : ℕ = sum_by size (take i es) in
    let p : ℕ = sum_by size (take j es) in
    packed_++ size read (take i es) (fs ++ drop j es) (take o bs) (cs ++ drop p bs) framed (sym (length-take-le o bs l))
    ∙ ap (λ (x : List X). packed size read (take i es) (take o bs) ++ x) (packed_++ size read fs (drop j es) cs (drop p bs) framed filled)
    ∙ ap (λ (x : List X). x ++ (packed size read fs cs ++ packed size read (drop j es) (drop p bs))) (take_packed size read i es bs framed h l)
    ∙ ap (λ (x : List X). take i (packed size read es bs) ++ (packed size read fs cs ++ x)) (sym (drop_packed size read j es bs))

-- one entry gives way to one of the same size
pub packed_set : {E X : Type 0} (size : E → ℕ) (read : E → List ℕ → X) (i : ℕ) (es : List E) (bs : List ℕ) (e f : E) → slice_get es i ≡ Some e → size f ≡ size e → packed size read (set es i f) bs ≡ set (packed size read es bs) i (read f (drop (sum_by size (take i es)) bs))
packed_set size read i [] bs e f at same = cc
packed_set {X = X} size read zero (g ∷ es) bs e f at same =
    let here : g ≡ e = cc in
    ap (λ k. read f bs ∷ packed size read es (drop k bs)) (same ∙ ap size (sym here))
packed_set {X = X} size read (suc k) (g ∷ es) bs e f at same =
    let sizes : sum_by size (g ∷ take k es) ≡ size g + sum_by size (take k es) = sum_by-cons size g (take k es) in
    ap (λ (x : List X). read g bs ∷ x) (packed_set size read k es (drop (size g) bs) e f at same)
    ∙ ap (λ (x : List ℕ). read g bs ∷ set (packed size read es (drop (size g) bs)) k (read f x))
    (drop-drop (sum_by size (take k es)) (size g) bs ∙ ap (λ (j : ℕ). drop j bs) (sym sizes))
