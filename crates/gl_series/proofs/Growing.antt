-- How days and members grow by one more entry.
use Rattle.std.proofs.Common.{◌≡◌, ◌≢◌, ◌∙◌, sym, ap, subst, ℕ, suc, ◌<◌, ◌≤◌, List, [], ◌∷◌, ◌++◌, length, arith}
use Rattle.std.specs.Prelude.{All, AllPairs}
use Rattle.std.specs.List.{flat_map}
use Rattle.std.proofs.lemmas.List.{append-nil, length-append}
use Rattle.std.proofs.lemmas.List.Concat.{flat_map-append}
use Rattle.std.proofs.lemmas.List.Elements.{All-cons, All-head, All-nil, All-push, All-tail}
use Rattle.std.proofs.lemmas.List.Kept.{AllPairs-cons}
use Rattle.gl_series.specs.declared.entry.Entry.{Entry}
use Rattle.gl_series.specs.declared.entry.Entry.TheVariants.{Team}
use Rattle.gl_series.specs.declared.series.Member.{Member}
use Rattle.gl_series.specs.Code.Adding.{with_entry}
use Rattle.gl_series.specs.SeriesList.{Fit, IsSeries, day_of, member_of, series_of}

module _ {X : Type 0} where
  pub all_begin : (P : X → Type 0) (xs ys : List X) → All P (xs ++ ys) → All P xs
  all_begin P [] ys all = All-nil P
  all_begin P (x ∷ xs) ys all = All-cons P x xs (All-head P x (xs ++ ys) all) (all_begin P xs ys (All-tail P x (xs ++ ys) all))

  pub all_last : (P : X → Type 0) (xs : List X) (y : X) → All P (xs ++ y ∷ []) → P y
  all_last P [] y all = All-head P y [] all
  all_last P (x ∷ xs) y all = all_last P xs y (All-tail P x (xs ++ y ∷ []) all)

  pub pairs_head : (R : X → X → Type 0) (x : X) (xs : List X) → AllPairs R (x ∷ xs) → All (R x) xs
  pairs_head R x xs pairs = λ k d within. pairs 0 (suc k) d (omega arith) (omega (arith, within))

  pub pairs_tail : (R : X → X → Type 0) (x : X) (xs : List X) → AllPairs R (x ∷ xs) → AllPairs R xs
  pairs_tail R x xs pairs = λ i j d below within. pairs (suc i) (suc j) d (omega (arith, below)) (omega (arith, within))

  pub pairs_nil : (R : X → X → Type 0) → AllPairs R []
  pairs_nil R = λ i j d below within. absurd (omega (arith, below, within))

  -- a front of a list whose items are in pairs
  pub pairs_begin : (R : X → X → Type 0) (xs ys : List X) → AllPairs R (xs ++ ys) → AllPairs R xs
  pairs_begin R [] ys pairs = pairs_nil R
  pairs_begin R (x ∷ xs) ys pairs = AllPairs-cons R x xs (all_begin (R x) xs ys (pairs_head R x (xs ++ ys) pairs)) (pairs_begin R xs ys (pairs_tail R x (xs ++ ys) pairs))

  -- one item more at the end
  pub pairs_last : (R : X → X → Type 0) (xs : List X) (y : X) → AllPairs R (xs ++ y ∷ []) → All (λ x. R x y) xs
  pairs_last R [] y pairs = All-nil (λ x. R x y)
  pairs_last R (x ∷ xs) y pairs = All-cons (λ x. R x y) x xs (all_last (R x) xs y (pairs_head R x (xs ++ y ∷ []) pairs)) (pairs_last R xs y (pairs_tail R x (xs ++ y ∷ []) pairs))

  pub pairs_push : (R : X → X → Type 0) (xs : List X) (y : X) → AllPairs R xs → All (λ x. R x y) xs → AllPairs R (xs ++ y ∷ [])
  pairs_push R [] y pairs all = AllPairs-cons R y [] (All-nil (R y)) (pairs_nil R)
  pairs_push R (x ∷ xs) y pairs all =
      AllPairs-cons R x (xs ++ y ∷ []) (All-push (R x) xs y (pairs_head R x xs pairs) (All-head (λ x. R x y) x xs all))
      (pairs_push R xs y (pairs_tail R x xs pairs) (All-tail (λ x. R x y) x xs all))

abbrev days_apart : List ℕ → List ℕ → Type 0
days_apart one other = one ≢ other

abbrev numbers_apart : Member → Member → Type 0
numbers_apart one other = one.number ≢ other.number

-- a member more
pub member_fits : (days : List (List ℕ)) (teams : List Member) (member : Member) → IsSeries (record { days = days; teams = teams }) → length teams < 1_000
    → All (λ other. other.number ≢ member.number) teams → IsSeries (with_entry days teams (Team member))
member_fits days teams member is room new = record {
  few_days = subst (λ (ds : List (List ℕ)). length ds ≤ 30) (sym (append-nil days)) is.few_days;
  days_differ = subst (AllPairs days_apart) (sym (append-nil days)) is.days_differ;
  few_members = omega (arith, length-append teams (member ∷ []), room);
  numbers_differ = pairs_push numbers_apart teams member is.numbers_differ new;
}

pub member_room : (days : List (List ℕ)) (teams : List Member) (member : Member) → IsSeries (with_entry days teams (Team member))
    → (length teams < 1_000) × All (λ other. other.number ≢ member.number) teams
member_room days teams member fits =
    (omega (arith, fits.few_members, length-append teams (member ∷ [])), pairs_last numbers_apart teams member fits.numbers_differ)

-- a front of entries that fit
pub fit_begins : (a b : List Entry) → Fit (a ++ b) → Fit a
fit_begins a b fit =
    let days = flat_map-append day_of a b in
    let teams = flat_map-append member_of a b in
    record {
      few_days = omega (arith, fit.few_days, ap length days, length-append (flat_map day_of a) (flat_map day_of b));
      days_differ = pairs_begin days_apart (flat_map day_of a) (flat_map day_of b) (subst (AllPairs days_apart) days fit.days_differ);
      few_members = omega (arith, fit.few_members, ap length teams, length-append (flat_map member_of a) (flat_map member_of b));
      numbers_differ = pairs_begin numbers_apart (flat_map member_of a) (flat_map member_of b) (subst (AllPairs numbers_apart) teams fit.numbers_differ);
    }

-- what entries say with one more
pub series_push : (entries : List Entry) (entry : Entry) → series_of (entries ++ entry ∷ []) ≡ with_entry (flat_map day_of entries) (flat_map member_of entries) entry
series_push entries entry =
    let days : flat_map day_of (entries ++ entry ∷ []) ≡ flat_map day_of entries ++ day_of entry = flat_map-append day_of entries (entry ∷ [])
    ∙ ap (λ (l : List (List ℕ)). flat_map day_of entries ++ l) (append-nil (day_of entry)) in
    let teams : flat_map member_of (entries ++ entry ∷ []) ≡ flat_map member_of entries ++ member_of entry = flat_map-append member_of entries (entry ∷ [])
    ∙ ap (λ (l : List Member). flat_map member_of entries ++ l) (append-nil (member_of entry)) in
    λ i. record { days = days i; teams = teams i }
