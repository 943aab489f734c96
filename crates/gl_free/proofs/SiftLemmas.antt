-- Candidates that are gone over for one side of the middle.
use Rattle.std.proofs.Common.{◌≡◌, ◌∙◌, ap, sym, refl, subst, ℕ, zero, suc, ◌+◌, ◌<◌, ◌≤◌, ◌⊎◌, inl, inr, ⊎_elim, List, [], ◌∷◌, ◌++◌, length, max, take, get_or, length-append, Vec, Global, arith}
use Rattle.std.specs.Prelude.{All}
use Rattle.std.proofs.lemmas.Bool.{cases_lt}
use Rattle.std.proofs.lemmas.List.{get_or-take, get_or_default, length-take, take-take, take_all}
use Rattle.std.proofs.Math.Seq.{get_or-append_seam, take-append_seam}
use Rattle.gl_igc.specs.declared.fix.Fix.{Fix}
use Rattle.gl_box.specs.Cell.{ends}
use Rattle.gl_goal.specs.Near.{IsPlaceOf}
use Rattle.gl_free.specs.declared.arm.Arm.{Arm}
use Rattle.gl_free.specs.declared.candidate.Candidate.{Candidate}
use Rattle.gl_free.specs.declared.ends.Ends.{Ends}
use Rattle.gl_free.specs.declared.flank.Flank.{Flank}
use Rattle.gl_free.specs.declared.known.Known.{Known}
use Rattle.gl_free.specs.declared.side.Side.{Side}
use Rattle.gl_free.specs.declared.side.Side.TheVariants.{Before, After}
use Rattle.gl_free.specs.Code.Arms.{IsArm, IsTop, arm_length}
use Rattle.gl_free.specs.Code.Candidates.{Grows, IsAmong, IsCandidate, IsFlank, IsKnown, Sifts, Starts}
use Rattle.gl_free.specs.Code.Ends.{IsPast, Stands}
use Rattle.gl_free.specs.Code.Farthest.{IsBeyond, IsFarthest}
use Rattle.gl_free.specs.Code.Places.{IsMost, leg}
use Rattle.gl_free.proofs.PlaceLemmas.{leg-limited}
use Rattle.gl_free.proofs.ReachLemmas.{single-stands}

-- a list that grew keeps what it had
pub grown-at : (fixes : List Fix) (allowed : Ends) (middle : ℕ × ℕ) (old new : List Candidate) (k : ℕ) (d : Candidate) → Grows fixes allowed middle old new → k < length old
    → get_or new k d ≡ get_or old k d
grown-at fixes allowed middle old new k d grows below =
    sym (get_or-take (length old) new k d below) ∙ ap (λ (list : List Candidate). get_or list k d) grows.kept

pub grows-none : (fixes : List Fix) (allowed : Ends) (middle : ℕ × ℕ) (list : List Candidate) → Grows fixes allowed middle list list
grows-none fixes allowed middle list = record {
  longer = omega arith;
  kept = take_all (length list) list (omega arith);
  added = λ k d low high. absurd (omega arith);
}

grows-through : (fixes : List Fix) (allowed : Ends) (middle : ℕ × ℕ) (old between new : List Candidate) → Grows fixes allowed middle old between → Grows fixes allowed middle between new
    → Grows fixes allowed middle old new
grows-through fixes allowed middle old between new first second = record {
  longer = omega (arith, first.longer, second.longer);
  kept = sym (take-take (length old) (length between) new first.longer) ∙ ap (take (length old)) second.kept ∙ first.kept;
  added = λ k d low high. ⊎_elim
      (λ (early : k < length between). subst (λ (c : Candidate). IsCandidate fixes allowed middle c) (sym (grown-at fixes allowed middle between new k d second early)) (first.added k d low early))
      (λ (late : length between ≤ k). second.added k d late high)
      (cases_lt k (length between));
}

grows-pushed : (fixes : List Fix) (allowed : Ends) (middle : ℕ × ℕ) (old : List Candidate) (candidate : Candidate) → IsCandidate fixes allowed middle candidate
    → Grows fixes allowed middle old (old ++ candidate ∷ [])
grows-pushed fixes allowed middle old candidate is = record {
  longer = omega (arith, length-append old (candidate ∷ []));
  kept = take-append_seam old (candidate ∷ []);
  added = λ k d low high.
      let at : k ≡ length old = omega (arith, length-append old (candidate ∷ [])) in
      subst (λ (c : Candidate). IsCandidate fixes allowed middle c) (sym (ap (λ (n : ℕ). get_or (old ++ candidate ∷ []) n d) at ∙ get_or-append_seam old candidate [] d)) is;
}

-- what is among the candidates of a list is among those of a longer one, and from an earlier place on
among-grown : (fixes : List Fix) (allowed : Ends) (middle : ℕ × ℕ) (old new : List Candidate) (from inner : ℕ) → Grows fixes allowed middle old new → IsAmong old from inner → IsAmong new from inner
among-grown fixes allowed middle old new from inner grows among = record {
  at = among.at;
  candidate = among.candidate;
  low = among.low;
  high = omega (arith, among.high, grows.longer);
  there = grown-at fixes allowed middle old new among.at among.candidate grows among.high ∙ among.there;
  inside = among.inside;
}

among-earlier : (list : List Candidate) (from earlier inner : ℕ) → earlier ≤ from → IsAmong list from inner → IsAmong list earlier inner
among-earlier list from earlier inner less among = record {
  at = among.at;
  candidate = among.candidate;
  low = omega (arith, among.low);
  high = among.high;
  there = among.there;
  inside = among.inside;
}

among-pushed : (old : List Candidate) (candidate : Candidate) (inner : ℕ) → IsPlaceOf (ends candidate.span) inner → IsAmong (old ++ candidate ∷ []) (length old) inner
among-pushed old candidate inner inside = record {
  at = length old;
  candidate = candidate;
  low = omega arith;
  high = omega (arith, length-append old (candidate ∷ []));
  there = get_or-append_seam old candidate [] candidate;
  inside = inside;
}

-- an arm's end is less far from its inner fix than what is beyond all ends, and so it is shorter
-- than that and the leg to the middle
abbrev pub AreShort : List Fix → Ends → ℕ × ℕ → ℕ × ℕ → ℕ → Type 0
AreShort fixes allowed middle span most =
    (inner end third : ℕ) → IsPlaceOf span inner → IsPlaceOf middle third → IsArm fixes allowed third inner end → arm_length fixes third inner end < most

pub short-candidate : (fixes : List Fix) (allowed : Ends) (middle : ℕ × ℕ) (candidate : Candidate) → IsCandidate fixes allowed middle candidate
    → AreShort fixes allowed middle (ends candidate.span) candidate.most
short-candidate fixes allowed middle candidate is inner end third inside in_middle arm =
    omega (arith, is.farthest.above end inner inside arm.is_end, is.at_most inner third inside in_middle)

-- for a single middle place the candidate is a single place, and what it says is exact
pub record IsExact (fixes : List Fix) (allowed : Ends) (middle : ℕ × ℕ) (candidate : Candidate) : Type 0 where
  pub single : candidate.span.lo ≡ candidate.span.hi
  pub stands : Stands allowed.side candidate.span.lo middle.0
  pub most : candidate.most ≡ candidate.far.value + leg fixes candidate.span.lo middle.0

pub top-taken : (fixes : List Fix) (allowed : Ends) (middle : ℕ × ℕ) (candidate : Candidate) → IsCandidate fixes allowed middle candidate
    → (middle.0 ≡ middle.1 → IsExact fixes allowed middle candidate) → IsTop fixes allowed middle (record { most = candidate.most; inner = candidate.span.lo; end = candidate.far.place })
top-taken fixes allowed middle candidate is exact = record {
  inner_in = omega (arith, is.within, candidate.span.ordered);
  limited = is.limited;
  reached = λ one some.
      let at = exact one in
      let end = is.farthest.reached at.single is.some_end in
      (record { inner_in = omega (arith, is.within, candidate.span.ordered); is_end = end.0; stands = at.stands }, omega (arith, at.most, end.1));
}

-- a candidate that is kept
pub sifts-kept : (fixes : List Fix) (allowed : Ends) (middle : ℕ × ℕ) (need : ℕ) (candidate : Candidate) (old new : List Candidate) (arm after : Arm) → middle.0 ≤ middle.1
    → IsTop fixes allowed middle arm → IsCandidate fixes allowed middle candidate → (middle.0 ≡ middle.1 → IsExact fixes allowed middle candidate) → (middle.0 ≡ middle.1 → new ≡ old)
    → (middle.0 < middle.1 → new ≡ old ++ candidate ∷ []) → (arm.most < candidate.most → after ≡ record { most = candidate.most; inner = candidate.span.lo; end = candidate.far.place })
    → (candidate.most ≤ arm.most → after ≡ arm) → Sifts fixes allowed middle need (IsPlaceOf (ends candidate.span)) old new arm.most after
sifts-kept fixes allowed middle need candidate old new arm after order top is exact same pushed greater not_greater =
    let taken : Arm = record { most = candidate.most; inner = candidate.span.lo; end = candidate.far.place } in
    let raised : (arm.most ≤ after.most) × (candidate.most ≤ after.most) = ⊎_elim
    (λ (more : arm.most < candidate.most). (omega (arith, ap (λ (a : Arm). a.most) (greater more)), omega (arith, ap (λ (a : Arm). a.most) (greater more))))
    (λ (less : candidate.most ≤ arm.most). (omega (arith, ap (λ (a : Arm). a.most) (not_greater less)), omega (arith, ap (λ (a : Arm). a.most) (not_greater less))))
    (cases_lt arm.most candidate.most) in
    record {
      grows = ⊎_elim
          (λ (more : middle.0 < middle.1). subst (Grows fixes allowed middle old) (sym (pushed more)) (grows-pushed fixes allowed middle old candidate is))
          (λ (less : middle.1 ≤ middle.0). subst (Grows fixes allowed middle old) (sym (same (omega arith))) (grows-none fixes allowed middle old))
          (cases_lt middle.0 middle.1);
      top = ⊎_elim
          (λ (more : arm.most < candidate.most). subst (IsTop fixes allowed middle) (sym (greater more)) (top-taken fixes allowed middle candidate is exact))
          (λ (less : candidate.most ≤ arm.most). subst (IsTop fixes allowed middle) (sym (not_greater less)) top)
          (cases_lt arm.most candidate.most);
      raised = raised.0;
      shorter = λ inner end third inside in_middle is_arm needed. omega (arith, raised.1, short-candidate fixes allowed middle candidate is inner end third inside in_middle is_arm);
      found = λ inner end third inside in_middle is_arm needed more. subst (λ (list : List Candidate). IsAmong list (length old) inner) (sym (pushed more)) (among-pushed old candidate inner inside);
    }

-- nothing is kept of places of which no arm is of use
sifts-none : (fixes : List Fix) (allowed : Ends) (middle : ℕ × ℕ) (need : ℕ) (kind : ℕ → Type 0) (list : List Candidate) (arm : Arm) → IsTop fixes allowed middle arm
    → ((inner end third : ℕ) → kind inner → IsPlaceOf middle third → IsArm fixes allowed third inner end → need ≤ arm_length fixes third inner end
    → (arm_length fixes third inner end < arm.most) × (middle.0 < middle.1 → ⊥))
    → Sifts fixes allowed middle need kind list list arm.most arm
sifts-none fixes allowed middle need kind list arm top useless = record {
  grows = grows-none fixes allowed middle list;
  top = top;
  raised = omega arith;
  shorter = λ inner end third is_kind in_middle is_arm needed. (useless inner end third is_kind in_middle is_arm needed).0;
  found = λ inner end third is_kind in_middle is_arm needed wide. absurd ((useless inner end third is_kind in_middle is_arm needed).1 wide);
}

none-past : (side : Side) (span middle : ℕ × ℕ) (inner third : ℕ) → IsPast side span middle → IsPlaceOf span inner → IsPlaceOf middle third → Stands side inner third → ⊥
none-past Before span middle inner third past inside in_middle stands = absurd (omega (arith, inside.0, in_middle.1))
none-past After span middle inner third past inside in_middle stands = absurd (omega (arith, inside.1, in_middle.0))

-- a span that lies past the middle
pub sifts-past : (fixes : List Fix) (allowed : Ends) (middle span : ℕ × ℕ) (need : ℕ) (list : List Candidate) (arm : Arm) → IsTop fixes allowed middle arm → IsPast allowed.side span middle
    → Sifts fixes allowed middle need (IsPlaceOf span) list list arm.most arm
sifts-past fixes allowed middle span need list arm top past =
    sifts-none fixes allowed middle need (IsPlaceOf span) list arm top
    (λ inner end third inside in_middle is_arm needed. absurd (none-past allowed.side span middle inner third past inside in_middle is_arm.stands))

-- a span with no end, or none whose legs are above the limit
pub sifts-low : (fixes : List Fix) (allowed : Ends) (middle span : ℕ × ℕ) (need limit beyond most : ℕ) (list : List Candidate) (arm : Arm) → IsTop fixes allowed middle arm
    → IsBeyond fixes allowed span beyond → IsMost (leg fixes) span middle most → (beyond ≡ 0) ⊎ (beyond + most ≤ limit) → limit ≤ max need arm.most → (middle.0 < middle.1 → limit ≡ need)
    → Sifts fixes allowed middle need (IsPlaceOf span) list list arm.most arm
sifts-low fixes allowed middle span need limit beyond most list arm top above legs low limited wide =
    sifts-none fixes allowed middle need (IsPlaceOf span) list arm top (λ inner end third inside in_middle is_arm needed.
    let far = above end inner inside is_arm.is_end in
    let near = legs.at_most inner third inside in_middle in
    ⊎_elim
    (λ (none : beyond ≡ 0). absurd (omega (arith, far)))
    (λ (less : beyond + most ≤ limit). (omega (arith, far, near, needed, limited), λ more. absurd (omega (arith, far, near, needed, wide more))))
    low)

-- a candidate whose legs are no longer than the need
pub sifts-less : (fixes : List Fix) (allowed : Ends) (middle : ℕ × ℕ) (need : ℕ) (candidate : Candidate) (list : List Candidate) (arm : Arm) → IsTop fixes allowed middle arm
    → IsCandidate fixes allowed middle candidate → candidate.most ≤ need → Sifts fixes allowed middle need (IsPlaceOf (ends candidate.span)) list list arm.most arm
sifts-less fixes allowed middle need candidate list arm top is less =
    sifts-none fixes allowed middle need (IsPlaceOf (ends candidate.span)) list arm top
    (λ inner end third inside in_middle is_arm needed. absurd (omega (arith, short-candidate fixes allowed middle candidate is inner end third inside in_middle is_arm, needed)))

-- what is known stays where only candidates were added
pub flank-kept : (fixes : List Fix) (old new : Flank) → new.known ≡ old.known → IsFlank fixes old → IsFlank fixes new
flank-kept fixes old new same is = record {
  few = is.few;
  sized = ap (λ (known : Vec Known Global). length known.items) same ∙ is.sized;
  known = subst (λ (known : Vec Known Global). All (IsKnown fixes) known.items) (sym same) is.known;
}

-- places of a kind are gone over in two parts
pub sifts-parts : (fixes : List Fix) (allowed : Ends) (middle : ℕ × ℕ) (need : ℕ) (kind one other : ℕ → Type 0) (old between new : List Candidate) (least : ℕ) (first second : Arm)
    → ((inner : ℕ) → kind inner → one inner ⊎ other inner) → Sifts fixes allowed middle need one old between least first → Sifts fixes allowed middle need other between new first.most second
    → Sifts fixes allowed middle need kind old new least second
sifts-parts fixes allowed middle need kind one other old between new least first second parts before after = record {
  grows = grows-through fixes allowed middle old between new before.grows after.grows;
  top = after.top;
  raised = omega (arith, before.raised, after.raised);
  shorter = λ inner end third is_kind in_middle is_arm needed. ⊎_elim
      (λ (is_one : one inner). omega (arith, before.shorter inner end third is_one in_middle is_arm needed, after.raised))
      (λ (is_other : other inner). after.shorter inner end third is_other in_middle is_arm needed)
      (parts inner is_kind);
  found = λ inner end third is_kind in_middle is_arm needed more. ⊎_elim
      (λ (is_one : one inner). among-grown fixes allowed middle between new (length old) inner after.grows (before.found inner end third is_one in_middle is_arm needed more))
      (λ (is_other : other inner). among-earlier new (length between) (length old) inner before.grows.longer (after.found inner end third is_other in_middle is_arm needed more))
      (parts inner is_kind);
}

-- the places of a span lie in its halves
pub halves-parts : (lo middle next hi : ℕ) (place : ℕ) → next ≡ middle + 1 → IsPlaceOf (lo, hi) place → IsPlaceOf (lo, middle) place ⊎ IsPlaceOf (next, hi) place
halves-parts lo middle next hi place is inside = ⊎_elim
    (λ (above : middle < place). inr (omega arith, inside.1))
    (λ (below : place ≤ middle). inl (inside.0, below))
    (cases_lt middle place)

-- what is made of a span, its farthest end and the leg to the middle
pub candidate-made : (fixes : List Fix) (allowed : Ends) (middle : ℕ × ℕ) (candidate : Candidate) (most : ℕ) → candidate.span.hi < length fixes → 0 < candidate.far.value
    → IsFarthest fixes allowed (ends candidate.span) candidate.far → IsMost (leg fixes) (ends candidate.span) middle most → candidate.most ≡ candidate.far.value + most → most < 1099511627776
    → IsCandidate fixes allowed middle candidate
candidate-made fixes allowed middle candidate most within some farthest legs is limited = record {
  within = within;
  some_end = some;
  farthest = farthest;
  at_most = λ inner third inside in_middle. omega (arith, legs.at_most inner third inside in_middle);
  limited = omega (arith, farthest.limited);
}

pub exact-made : (fixes : List Fix) (allowed : Ends) (middle : ℕ × ℕ) (candidate : Candidate) (most : ℕ) → (IsPast allowed.side (ends candidate.span) middle → ⊥)
    → candidate.span.hi + middle.0 ≤ middle.1 + candidate.span.lo → IsMost (leg fixes) (ends candidate.span) middle most → candidate.most ≡ candidate.far.value + most → middle.0 ≡ middle.1
    → IsExact fixes allowed middle candidate
exact-made fixes allowed middle candidate most not_past narrow legs is one =
    let single : candidate.span.lo ≡ candidate.span.hi = omega (arith, candidate.span.ordered) in
    record {
      single = single;
      stands = single-stands allowed.side (ends candidate.span) middle single one not_past;
      most = omega (arith, legs.single single one);
    }

-- what is among the first candidates is among all but the last of them, or in the last one
pub among-next : (list : List Candidate) (at from inner : ℕ) (candidate : Candidate) → at < length list → get_or list at candidate ≡ candidate → IsAmong (take (at + 1) list) from inner
    → IsAmong (take at list) from inner ⊎ IsPlaceOf (ends candidate.span) inner
among-next list at from inner candidate below is among =
    let size = length-take (at + 1) list in
    let found : get_or list among.at among.candidate ≡ among.candidate = sym (get_or-take (at + 1) list among.at among.candidate (omega (arith, among.high))) ∙ among.there in
    ⊎_elim
    (λ (early : among.at < at). inl (record {
      at = among.at;
      candidate = among.candidate;
      low = among.low;
      high = omega (arith, length-take at list);
      there = get_or-take at list among.at among.candidate early ∙ found;
      inside = among.inside;
    }))
    (λ (late : at ≤ among.at).
    let last : among.at ≡ at = omega (arith, among.high) in
    let same : among.candidate ≡ candidate = sym found ∙ ap (λ (n : ℕ). get_or list n among.candidate) last ∙ get_or_default list at among.candidate candidate below ∙ is in
    inr (subst (λ (c : Candidate). IsPlaceOf (ends c.span) inner) same among.inside))
    (cases_lt among.at at)

-- nothing is among no candidates
pub among-none : (list : List Candidate) (from inner : ℕ) → IsAmong (take from list) from inner → ⊥
among-none list from inner among = omega (arith, among.low, among.high, length-take from list)

one-at : (candidate d : Candidate) (k : ℕ) → k < 1 → get_or (candidate ∷ []) k d ≡ candidate
one-at candidate d zero below = refl
one-at candidate d (suc k) below = absurd (omega arith)

-- the whole is the only candidate at the start
starts-one : (fixes : List Fix) (allowed : Ends) (candidate : Candidate) → candidate.span.lo ≡ 0 → candidate.span.hi + 1 ≡ length fixes → 0 < candidate.far.value
    → IsFarthest fixes allowed (ends candidate.span) candidate.far → candidate.most ≡ 2199023255552
    → Starts fixes allowed (ends candidate.span) (candidate ∷ []) (record { from = 0; to = 1; most = 2199023255552 })
starts-one fixes allowed candidate first last some farthest most = record {
  is_part = record {
    ordered = omega arith;
    within = omega arith;
    limited = omega arith;
    candidates = λ k d low high. subst (IsCandidate fixes allowed (ends candidate.span)) (sym (one-at candidate d k (omega arith))) (record {
      within = omega arith;
      some_end = some;
      farthest = farthest;
      at_most = λ inner third inside in_middle. omega (arith, leg-limited fixes inner third, farthest.limited);
      limited = omega arith;
    });
  };
  among = λ inner end third is_arm. record {
    at = 0;
    candidate = candidate;
    low = omega arith;
    high = omega arith;
    there = refl;
    inside = (omega arith, omega (arith, is_arm.inner_in));
  };
  shorter = λ inner end third is_arm. omega (arith, leg-limited fixes end inner, leg-limited fixes inner third);
}

pub starts-whole : (fixes : List Fix) (allowed : Ends) (candidate : Candidate) (list : List Candidate) → list ≡ candidate ∷ [] → candidate.span.lo ≡ 0 → candidate.span.hi + 1 ≡ length fixes
    → 0 < candidate.far.value → IsFarthest fixes allowed (ends candidate.span) candidate.far → candidate.most ≡ 2199023255552
    → Starts fixes allowed (ends candidate.span) list (record { from = 0; to = 1; most = 2199023255552 })
starts-whole fixes allowed candidate list is first last some farthest most =
    subst (λ (l : List Candidate). Starts fixes allowed (ends candidate.span) l (record { from = 0; to = 1; most = 2199023255552 })) (sym is)
    (starts-one fixes allowed candidate first last some farthest most)

-- nothing was gone over yet
pub sifts-empty : (fixes : List Fix) (allowed : Ends) (middle : ℕ × ℕ) (need : ℕ) (kind : ℕ → Type 0) (list : List Candidate) → 0 < length fixes → ((inner : ℕ) → kind inner → ⊥)
    → Sifts fixes allowed middle need kind list list 0 (record { most = 0; inner = 0; end = 0 })
sifts-empty fixes allowed middle need kind list some none = record {
  grows = grows-none fixes allowed middle list;
  top = record { inner_in = some; limited = omega arith; reached = λ one more. absurd (omega arith) };
  raised = omega arith;
  shorter = λ inner end third is_kind in_middle is_arm needed. absurd (none inner is_kind);
  found = λ inner end third is_kind in_middle is_arm needed more. absurd (none inner is_kind);
}
