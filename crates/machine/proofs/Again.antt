-- A list of calls given again, with other limits, allowances and areas. Assumes nothing.
use Rattle.std.proofs.Common.{◌≡◌, ℕ, zero, suc, ◌<◌, ◌≤◌, ◌⊎◌, List, [], ◌∷◌, map, sym, refl, ap, ◌∙◌, subst, ap₂, inl, inr, arith}
use Rattle.machine.specs.declared.amounts.Limits.{Limits}
use Rattle.machine.specs.Texts.{Code}
use Rattle.machine.specs.Chain.{Kind, kind, amount, bounds}
use Rattle.machine.specs.Calls.{Call, After, Memory, Done, allowance_of, done, history}
use Rattle.machine.specs.Promises.{AShortageOf, NoShortage, allowance_at, Lent, FirstDiffersAt}
use Rattle.machine.proofs.OneCall.{Asked, asked, same_asked, same_or_shortage, SameOrShortage, reported_within}
use Rattle.machine.proofs.Admitted.{Passes}

-- ds ask for the same as cs and have the same allowances, and 10 and 11 refuse none
pub record Same (q : Limits) (cs ds : List Call) : Type 0 where
  pub ask : map asked cs ≡ map asked ds
  pub pass : Passes q ds
  pub allow : (i : ℕ) → allowance_at i ds ≡ allowance_at i cs

pub lent_same : (q : Limits) (cs ds : List Call) → Lent q cs ds → Same q cs ds
lent_same q [] [] l = record { ask = refl; pass = tt; allow = λ i. refl }
lent_same q [] (d ∷ ds) l = absurd l
lent_same q (c ∷ cs) [] l = absurd l
lent_same q (c ∷ cs) (d ∷ ds) l = go (lent_same q cs ds l.1) (same_asked c d l.0.0)
  where
    go : Same q cs ds → (allowance_of c ≡ allowance_of d) × (asked c ≡ asked d) → Same q (c ∷ cs) (d ∷ ds)
    go r f =
        record {
          ask = ap₂ (λ (x : Asked) (xs : List Asked). x ∷ xs) f.1 r.ask;
          pass = (l.0.1, r.pass);
          allow = elim [ zero ↦ sym f.0 | suc i ↦ r.allow i ];
        }

-- the need that call i reported
abbrev pub need_at : ℕ → Kind → List After → ℕ
need_at i k [] = 0
need_at zero k (a ∷ h) = amount k a.replied.needs
need_at (suc i) k (a ∷ h) = need_at i k h

-- no call reports a need past its bound
module _ (code : Code) (p : Limits) where
  pub within_at : (m : Memory) (cs : List Call) (i : ℕ) (k : Kind) → need_at i k (history code p m cs) ≤ amount k (bounds p (allowance_at i cs))
  within_at m [] i k = omega arith
  within_at m (c ∷ cs) zero k = reported_within code p m c k
  within_at m (c ∷ cs) (suc i) k = within_at (done code p m c).memory cs i k

-- the first of g to differ from h met a shortage: the need that h reported there is past its bound
pub record Differs (q : Limits) (ds : List Call) (h g : List After) : Type 0 where
  pub place : ℕ
  pub short_of : Kind
  pub first : FirstDiffersAt place (AShortageOf short_of) h g
  pub past : amount short_of (bounds q (allowance_at place ds)) < need_at place short_of h

-- a list that met no shortage, given again: all is equal, or the first to differ met a shortage
module _ (code : Code) (p q : Limits) where
  pub again : (m : Memory) (cs ds : List Call) → map asked cs ≡ map asked ds → Passes p cs → Passes q ds → NoShortage (history code p m cs) →
      (history code q m ds ≡ history code p m cs) ⊎ Differs q ds (history code p m cs) (history code q m ds)
  again m [] [] e l n h = inl refl
  again m [] (d ∷ ds) e l n h = inl (cc)
  again m (c ∷ cs) [] e l n h = inl (cc)
  again m (c ∷ cs) (d ∷ ds) e l n h =
      go (same_or_shortage code p q m c d (cc) (l.0 ∙ sym n.0) (λ k i. absurd (h.0 (k, i))))
      (again (done code p m c).memory cs ds (cc) l.1 n.1 h.1)
    where
      x : Done
      x = done code p m c

      y : Done
      y = done code q m d

      go : SameOrShortage (bounds q (allowance_of d)) y x →
          (history code q x.memory ds ≡ history code p x.memory cs) ⊎ Differs q ds (history code p x.memory cs) (history code q x.memory ds) →
          (history code q m (d ∷ ds) ≡ history code p m (c ∷ cs)) ⊎ Differs q (d ∷ ds) (history code p m (c ∷ cs)) (history code q m (d ∷ ds))
      go (inl f) (inl g) = inl (ap₂ (λ (z : Done) (r : List After). z.after ∷ r) f (ap (λ (z : Done). history code q z.memory ds) f ∙ g))
      go (inl f) (inr g) =
          inr (record {
            place = suc g.place;
            short_of = g.short_of;
            first = (
              ap (λ (z : Done). z.after) (sym f),
              subst (λ (z : Done). FirstDiffersAt g.place (AShortageOf g.short_of) (history code p x.memory cs) (history code q z.memory ds))
                  (sym f) g.first,
            );
            past = g.past;
          })
      go (inr f) g =
          inr (record {
            place = 0;
            short_of = kind f.0;
            first = (
              (λ s. h.0 (f.0, ap (λ z. z.number) s ∙ f.1)),
              record { question = f.0; of_kind = refl; numbered = f.1 },
            );
            past = f.2;
          })

-- what P implies holds there too
pub differs_by : {P Q : After → Type 0} → ((a : After) → P a → Q a) → (i : ℕ) (h g : List After) → FirstDiffersAt i P h g → FirstDiffersAt i Q h g
differs_by f i [] g d = d
differs_by f i (a ∷ h) [] d = d
differs_by f zero (a ∷ h) (b ∷ g) d = (d.0, f b d.1)
differs_by f (suc i) (a ∷ h) (b ∷ g) d = (d.0, differs_by f i h g d.1)
