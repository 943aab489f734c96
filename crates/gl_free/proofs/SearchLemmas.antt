-- A search of a middle span: what it is refined to, its halves, and a single middle fix.
use Rattle.std.proofs.Common.{◌≡◌, ◌∙◌, ap, sym, refl, subst, ℕ, ◌+◌, ◌-◌, ◌<◌, ◌≤◌, ⊎_elim, List, length, take, Option, None, Some, ℤ, ◌-ℤ◌, ◌<ℤ◌, MatchOption, Bool, false, arith}
use Rattle.std.specs.Prelude.{IsTrue}
use Rattle.std.proofs.lemmas.Bool.{both_ways, cases_lt}
use Rattle.std.proofs.lemmas.List.{length-take, take-take, take_all}
use Rattle.gl_igc.specs.declared.fix.Fix.{Fix}
use Rattle.gl_goal.specs.declared.best.Best.{Best}
use Rattle.gl_goal.specs.Near.{IsPlaceOf}
use Rattle.gl_free.specs.declared.arm.Arm.{Arm}
use Rattle.gl_free.specs.declared.arm.Arms.{Arms}
use Rattle.gl_free.specs.declared.arm.Part.{Part}
use Rattle.gl_free.specs.declared.candidate.Candidate.{Candidate}
use Rattle.gl_free.specs.declared.ends.Ends.{Ends}
use Rattle.gl_free.specs.declared.ends.Sides.{Sides}
use Rattle.gl_free.specs.declared.pair.Pair.{Pair}
use Rattle.gl_free.specs.declared.search.Search.{Search}
use Rattle.gl_free.specs.declared.side.Side.{Side}
use Rattle.gl_free.specs.declared.stop.Stop.{Stop}
use Rattle.gl_free.specs.declared.stop.Stop.TheVariants.{Done, GivenUp, Low}
use Rattle.gl_free.specs.Code.Arms.{arm_length}
use Rattle.gl_free.specs.Code.Candidates.{AreCandidates, Grows, IsAmong, IsPart, Sifts}
use Rattle.gl_free.specs.Code.Choices.{AreInOrder, IsLow}
use Rattle.gl_free.specs.Code.Ends.{IsAllowed, Stands}
use Rattle.gl_free.specs.Code.Places.{altitude_at}
use Rattle.gl_free.specs.Code.Search.{AreBelow, AreFound, AreHalvesOf, AreSides, IsBetter, IsHalted, IsNarrowed, IsOver, Keeps, stop_after}

-- what is above the need is a part of its own
part-refined : (fixes : List Fix) (allowed : Ends) (middle : ℕ × ℕ) (need : ℕ) (kind : ℕ → Type 0) (part : Part) (old new : List Candidate) (least : ℕ) (arm : Arm) → part.to ≤ length old
    → Sifts fixes allowed middle need kind (take part.to old) new least arm → IsPart fixes allowed middle new (record { from = part.to; to = length new; most = arm.most })
part-refined fixes allowed middle need kind part old new least arm within sifts =
    let size : length (take part.to old) ≡ part.to = omega (arith, length-take part.to old) in
    let Q : List Candidate → Type 0 = λ list. AreCandidates fixes allowed middle list part.to in
    let added : AreCandidates fixes allowed middle new part.to = λ k d low high. sifts.grows.added k d (omega (arith, low)) high in
    record {
      ordered = omega (arith, sifts.grows.longer);
      within = omega arith;
      limited = sifts.top.limited;
      candidates = subst Q (sym (take_all (length new) new (omega arith))) added;
    }

among-after : (part : Part) (old new : List Candidate) (inner : ℕ) → part.to ≤ length old → IsAmong new (length (take part.to old)) inner → IsAmong new part.to inner
among-after part old new inner within among =
    let size : length (take part.to old) ≡ part.to = omega (arith, length-take part.to old) in
    subst (λ (n : ℕ). IsAmong new n inner) size among

-- the first candidates stay where others were added behind them
pub keeps-grown : (fixes : List Fix) (allowed : Ends) (middle : ℕ × ℕ) (part : Part) (old new : List Candidate) → part.to ≤ length old → Grows fixes allowed middle (take part.to old) new
    → Keeps part old new
keeps-grown fixes allowed middle part old new within grows =
    let size : length (take part.to old) ≡ part.to = omega (arith, length-take part.to old) in
    record { longer = omega (arith, grows.longer); kept = subst (λ (n : ℕ). take n new ≡ take part.to old) size grows.kept }

-- no choice is better where the most of both arms is no more
pub none-below : (fixes : List Fix) (sides : Sides) (middle : ℕ × ℕ) (found before after : ℕ) → AreBelow fixes sides middle found before after → before + after ≤ found + 2
    → IsBetter fixes sides middle found → ⊥
none-below fixes sides middle found before after below limit better =
    let short = below better in absurd (omega (arith, short.0, short.1, better.more))

-- nothing is shorter than no length
pub none-short : (length most : ℕ) → length < most → most ≡ 0 → ⊥
none-short length most short none = absurd (omega arith)

-- the arm of a better choice before the middle is shorter than the greatest that was sifted
pub before-short : (fixes : List Fix) (sides : Sides) (middle : ℕ × ℕ) (found need : ℕ) (before after : Part) (list other new : List Candidate) (arm : Arm)
    → AreBelow fixes sides middle found before.most after.most → AreFound fixes sides middle found (take before.to list) before.from (take after.to other) after.from → need ≡ found + 2 - after.most
    → Sifts fixes sides.before middle need (IsAmong (take before.to list) before.from) (take before.to list) new 0 arm → (t : IsBetter fixes sides middle found)
    → arm_length fixes t.third t.second t.first < arm.most
before-short fixes sides middle found need before after list other new arm below among need_is sifts t =
    let needed : need ≤ arm_length fixes t.third t.second t.first = omega (arith, t.more, (below t).1) in
    sifts.shorter t.second t.first t.third (among t).0 t.third_in t.before needed

-- and the one after it
pub after-short : (fixes : List Fix) (sides : Sides) (middle : ℕ × ℕ) (found need most : ℕ) (before after : Part) (other list new : List Candidate) (arm : Arm)
    → ((t : IsBetter fixes sides middle found) → arm_length fixes t.third t.second t.first < most)
    → AreFound fixes sides middle found (take before.to other) before.from (take after.to list) after.from → need ≡ found + 2 - most
    → Sifts fixes sides.after middle need (IsAmong (take after.to list) after.from) (take after.to list) new 0 arm → (t : IsBetter fixes sides middle found)
    → arm_length fixes t.third t.fourth t.last < arm.most
after-short fixes sides middle found need most before after other list new arm short among need_is sifts t =
    let needed : need ≤ arm_length fixes t.third t.fourth t.last = omega (arith, t.more, short t) in
    sifts.shorter t.fourth t.last t.third (among t).1 t.third_in t.after needed

pub narrowed : (fixes : List Fix) (sides : Sides) (middle : ℕ × ℕ) (found : ℕ) (search : Search) (before after : Part) (arms : Arms) (old_before old_after : List Candidate)
    (need_before need_after : ℕ) → search.best.total ≡ found → before.to ≤ length old_before → after.to ≤ length old_after → AreBelow fixes sides middle found before.most after.most
    → AreFound fixes sides middle found (take before.to old_before) before.from (take after.to old_after) after.from → need_before ≡ found + 2 - after.most → need_after ≡ found + 2 - arms.before.most
    → 0 < arms.before.most → 0 < arms.after.most → Sifts fixes sides.before middle need_before (IsAmong (take before.to old_before) before.from)
    (take before.to old_before) search.before.candidates.items 0 arms.before
    → Sifts fixes sides.after middle need_after (IsAmong (take after.to old_after) after.from) (take after.to old_after) search.after.candidates.items 0 arms.after
    → IsNarrowed fixes sides middle search before after arms
narrowed fixes sides middle found search before after arms old_before old_after need_before need_after same within_before within_after below among need_before_is need_after_is some_before some_after
    sifts_before sifts_after =
    let needed_before : (t : IsBetter fixes sides middle found) → need_before ≤ arm_length fixes t.third t.second t.first = λ t. omega (arith, t.more, (below t).1) in
    let short_before = before-short fixes sides middle found need_before before after old_before old_after search.before.candidates.items arms.before below among need_before_is sifts_before in
    let needed_after : (t : IsBetter fixes sides middle found) → need_after ≤ arm_length fixes t.third t.fourth t.last = λ t. omega (arith, t.more, short_before t) in
    let short_after = after-short fixes sides middle found need_after arms.before.most before after old_before old_after search.after.candidates.items arms.after short_before among need_after_is
    sifts_after in
    record {
      top_before = sifts_before.top;
      top_after = sifts_after.top;
      before_some = some_before;
      after_some = some_after;
      part_before = part-refined fixes sides.before middle need_before _ before old_before search.before.candidates.items 0 arms.before within_before sifts_before;
      part_after = part-refined fixes sides.after middle need_after _ after old_after search.after.candidates.items 0 arms.after within_after sifts_after;
      below = subst (λ (n : ℕ). AreBelow fixes sides middle n arms.before.most arms.after.most) (sym same) (λ t. (short_before t, short_after t));
      found = λ wide. subst (λ (n : ℕ). AreFound fixes sides middle n search.before.candidates.items before.to search.after.candidates.items after.to) (sym same)
          (λ t. (
            among-after before old_before search.before.candidates.items t.second within_before (sifts_before.found t.second t.first t.third (among t).0 t.third_in t.before (needed_before t) wide),
            among-after after old_after search.after.candidates.items t.fourth within_after (sifts_after.found t.fourth t.last t.third (among t).1 t.third_in t.after (needed_after t) wide),
          ));
    }

-- both sides of a middle span that was narrowed
pub is-narrowed : (fixes : List Fix) (sides : Sides) (middle : ℕ × ℕ) (found : ℕ) (search : Search) (before after : Part) (some : Option Arms) (arms : Arms) → some ≡ Some arms
    → MatchOption some (¬ IsBetter fixes sides middle found) (IsNarrowed fixes sides middle search before after) → IsNarrowed fixes sides middle search before after arms
is-narrowed fixes sides middle found search before after some arms is narrowed =
    subst (λ (o : Option Arms). MatchOption o (¬ IsBetter fixes sides middle found) (IsNarrowed fixes sides middle search before after)) is narrowed

-- and one that needn't be looked at
pub none-narrowed : (fixes : List Fix) (sides : Sides) (middle : ℕ × ℕ) (old : Best) (search : Search) (before after : Part) (some : Option Arms) → some ≡ None → search.best ≡ old
    → MatchOption some (¬ IsBetter fixes sides middle old.total) (IsNarrowed fixes sides middle search before after) → ¬ IsBetter fixes sides middle search.best.total
none-narrowed fixes sides middle old search before after some is same narrowed =
    let no = subst (λ (o : Option Arms). MatchOption o (¬ IsBetter fixes sides middle old.total) (IsNarrowed fixes sides middle search before after)) is narrowed in
    subst (λ (best : Best). ¬ IsBetter fixes sides middle best.total) (sym same) no

-- the arms of a single middle place make a choice in time order
pub order-single : (fixes list : List Fix) (sides : Sides) (middle : ℕ × ℕ) (search : Search) (before after : Part) (arms : Arms) → fixes ≡ list → AreSides sides → middle.0 ≡ middle.1
    → IsNarrowed fixes sides middle search before after arms → AreInOrder (length list) arms.before.end arms.before.inner middle.0 arms.after.inner arms.after.end
order-single fixes list sides middle search before after arms same both single is =
    let one = (is.top_before.reached single is.before_some).0 in
    let other = (is.top_after.reached single is.after_some).0 in
    record {
      second_later = subst (λ (s : Side). Stands s arms.before.end arms.before.inner) both.before one.is_end.stands;
      third_later = subst (λ (s : Side). Stands s arms.before.inner middle.0) both.before one.stands;
      fourth_later = subst (λ (s : Side). Stands s arms.after.inner middle.0) both.after other.stands;
      last_later = subst (λ (s : Side). Stands s arms.after.end arms.after.inner) both.after other.is_end.stands;
      within = omega (arith, other.is_end.allowed.within, ap length same);
    }

-- a span that isn't single has more places than one
pub span-cut : (lo hi : ℕ) (single : Bool) → lo ≤ hi → (lo ≡ hi → IsTrue single) → single ≡ false → lo < hi
span-cut lo hi single order is_single isnt = ⊎_elim
    (λ (less : lo < hi). less)
    (λ (more : hi ≤ lo). absurd (both_ways single isnt (is_single (omega arith))))
    (cases_lt lo hi)

-- what was found is no less where it was kept and then raised
pub kept-raised : (old kept : Best) (more : ℕ) → kept ≡ old → kept.total ≤ more → old.total ≤ more
kept-raised old kept more same raised = omega (arith, ap (λ (best : Best). best.total) same)

pub kept-best : (old kept : Best) → kept ≡ old → old.total ≤ kept.total
kept-best old kept same = omega (arith, ap (λ (best : Best). best.total) same)

pub kept-raised-twice : (old kept : Best) (more most : ℕ) → kept ≡ old → kept.total ≤ more → more ≤ most → old.total ≤ most
kept-raised-twice old kept more most same raised again = omega (arith, ap (λ (best : Best). best.total) same)

-- a better choice is one of a wider span, against a smaller total
abbrev pub better-wider : (fixes : List Fix) (sides : Sides) (middle wider : ℕ × ℕ) (found less : ℕ) → ((place : ℕ) → IsPlaceOf middle place → IsPlaceOf wider place) → less ≤ found
    → IsBetter fixes sides middle found → IsBetter fixes sides wider less
better-wider fixes sides middle wider found less inside order better = record {
  first = better.first;
  second = better.second;
  third = better.third;
  fourth = better.fourth;
  last = better.last;
  third_in = inside better.third better.third_in;
  before = better.before;
  after = better.after;
  more = omega (arith, better.more);
}

pub below-half : (fixes : List Fix) (sides : Sides) (middle half : ℕ × ℕ) (found more before after : ℕ) → ((place : ℕ) → IsPlaceOf half place → IsPlaceOf middle place) → found ≤ more
    → AreBelow fixes sides middle found before after → AreBelow fixes sides half more before after
below-half fixes sides middle half found more before after inside order below better = below (better-wider fixes sides half middle more found inside order better)

pub found-half : (fixes : List Fix) (sides : Sides) (middle half : ℕ × ℕ) (found more : ℕ) (before after : List Candidate) (from_before from_after : ℕ)
    → ((place : ℕ) → IsPlaceOf half place → IsPlaceOf middle place) → found ≤ more → AreFound fixes sides middle found before from_before after from_after
    → AreFound fixes sides half more before from_before after from_after
found-half fixes sides middle half found more before after from_before from_after inside order among better = among (better-wider fixes sides half middle more found inside order better)

-- what is true of a candidate for a span is true for a narrower one
pub part-half : (fixes : List Fix) (allowed : Ends) (middle half : ℕ × ℕ) (list : List Candidate) (part : Part) → ((place : ℕ) → IsPlaceOf half place → IsPlaceOf middle place)
    → IsPart fixes allowed middle list part → IsPart fixes allowed half list part
part-half fixes allowed middle half list part inside is = record {
  ordered = is.ordered;
  within = is.within;
  limited = is.limited;
  candidates = λ k d low high.
      let candidate = is.candidates k d low high in
      record {
        within = candidate.within;
        some_end = candidate.some_end;
        farthest = candidate.farthest;
        at_most = λ inner third in_span in_half. candidate.at_most inner third in_span (inside third in_half);
        limited = candidate.limited;
      };
}

-- a part stays while its candidates are kept
pub part-kept : (fixes : List Fix) (allowed : Ends) (middle : ℕ × ℕ) (old new : List Candidate) (part : Part) → IsPart fixes allowed middle old part → Keeps part old new
    → IsPart fixes allowed middle new part
part-kept fixes allowed middle old new part is keeps = record {
  ordered = is.ordered;
  within = keeps.longer;
  limited = is.limited;
  candidates = subst (λ (list : List Candidate). AreCandidates fixes allowed middle list part.from) (sym keeps.kept) is.candidates;
}

pub found-kept : (fixes : List Fix) (sides : Sides) (middle : ℕ × ℕ) (found : ℕ) (old_before new_before old_after new_after : List Candidate) (before after : Part) → Keeps before old_before new_before
    → Keeps after old_after new_after → AreFound fixes sides middle found (take before.to old_before) before.from (take after.to old_after) after.from
    → AreFound fixes sides middle found (take before.to new_before) before.from (take after.to new_after) after.from
found-kept fixes sides middle found old_before new_before old_after new_after before after keeps_before keeps_after among better = (
  subst (λ (list : List Candidate). IsAmong list before.from better.second) (sym keeps_before.kept) (among better).0,
  subst (λ (list : List Candidate). IsAmong list after.from better.fourth) (sym keeps_after.kept) (among better).1,
)

pub keeps-through : (part next : Part) (old between new : List Candidate) → part.to ≤ next.to → Keeps part old between → Keeps next between new → Keeps part old new
keeps-through part next old between new less first second = record {
  longer = omega (arith, second.longer);
  kept = sym (take-take part.to next.to new less) ∙ ap (take part.to) second.kept ∙ take-take part.to next.to between less ∙ first.kept;
}

-- a middle span has no better choice where neither half has
pub none-halves : (fixes : List Fix) (sides : Sides) (middle one other : ℕ × ℕ) (found more : ℕ) → AreHalvesOf middle one other → found ≤ more → ¬ IsBetter fixes sides one found
    → ¬ IsBetter fixes sides other more → ¬ IsBetter fixes sides middle more
none-halves fixes sides middle one other found more halves order not_one not_other better =
    let narrow : (half : ℕ × ℕ) → IsPlaceOf half better.third → IsBetter fixes sides half more = λ half inside. record {
      first = better.first;
      second = better.second;
      third = better.third;
      fourth = better.fourth;
      last = better.last;
      third_in = inside;
      before = better.before;
      after = better.after;
      more = better.more;
    } in
    ⊎_elim
    (λ (in_one : IsPlaceOf one better.third). not_one (better-wider fixes sides one one more found (λ place inside. inside) order (narrow one in_one)))
    (λ (in_other : IsPlaceOf other better.third). not_other (narrow other in_other))
    (halves.parts better.third better.third_in)

pub over-halves : (fixes : List Fix) (sides : Sides) (middle one other : ℕ × ℕ) (loss : ℤ) (found more : ℕ) (stop : Stop) → AreHalvesOf middle one other → found ≤ more
    → ¬ IsBetter fixes sides one found → IsHalted fixes sides other loss more stop → IsHalted fixes sides middle loss more stop
over-halves fixes sides middle one other loss found more Done halves order not_one over = none-halves fixes sides middle one other found more halves order not_one over
over-halves fixes sides middle one other loss found more (Low pair) halves order not_one over = over
over-halves fixes sides middle one other loss found more GivenUp halves order not_one over = over

-- a search of a half that isn't done is a search of the whole that isn't
pub halted-part : (fixes : List Fix) (sides : Sides) (middle half : ℕ × ℕ) (loss : ℤ) (found : ℕ) (stop : Stop) → (stop ≡ Done → ⊥) → IsHalted fixes sides half loss found stop
    → IsHalted fixes sides middle loss found stop
halted-part fixes sides middle half loss found Done open_ over = absurd (open_ refl)
halted-part fixes sides middle half loss found (Low pair) open_ over = over
halted-part fixes sides middle half loss found GivenUp open_ over = over

pub halted-after : (fixes : List Fix) (sides : Sides) (middle : ℕ × ℕ) (loss : ℤ) (found : ℕ) (low : Option Pair) → IsOver fixes sides middle loss found low
    → IsHalted fixes sides middle loss found (stop_after low)
halted-after fixes sides middle loss found None over = over
halted-after fixes sides middle loss found (Some pair) over = over

-- what was chosen at a single middle fix
pub over-single : (fixes : List Fix) (sides : Sides) (middle : ℕ × ℕ) (loss : ℤ) (found more : ℕ) (search : Search) (before after : Part) (arms : Arms) (stop : Option Pair) → middle.0 ≡ middle.1
    → search.best.total ≡ found → found ≤ more → IsNarrowed fixes sides middle search before after arms
    → MatchOption stop (arm_length fixes middle.0 arms.before.inner arms.before.end + arm_length fixes middle.0 arms.after.inner arms.after.end ≤ more)
    (IsLow fixes loss arms.before.end arms.after.end) → IsOver fixes sides middle loss more stop
over-single fixes sides middle loss found more kept before after arms None single same order is chosen = λ better.
    let less = is.below (better-wider fixes sides middle middle more kept.best.total (λ place inside. inside) (omega arith) better) in
    absurd (omega (arith, less.0, less.1, better.more, (is.top_before.reached single is.before_some).1, (is.top_after.reached single is.after_some).1))
over-single fixes sides middle loss found more kept before after arms (Some pair) single same order is chosen =
    let first = (is.top_before.reached single is.before_some).0.is_end.allowed in
    let last = (is.top_after.reached single is.after_some).0.is_end.allowed in
    record {
      first = subst (λ (n : ℕ). IsAllowed fixes sides.before n) (sym chosen.first_is) first;
      last = subst (λ (n : ℕ). IsAllowed fixes sides.after n) (sym chosen.last_is) last;
      low = subst (λ (n : ℕ). loss <ℤ (altitude_at fixes n -ℤ altitude_at fixes pair.last)) (sym chosen.first_is)
          (subst (λ (n : ℕ). loss <ℤ (altitude_at fixes arms.before.end -ℤ altitude_at fixes n)) (sym chosen.last_is) chosen.low);
    }

-- all that is asked of a middle span and its candidates
pub record IsReady (fixes : List Fix) (sides : Sides) (middle : ℕ × ℕ) (found : ℕ) (before_list after_list : List Candidate) (before after : Part) : Type 0 where
  pub part_before : IsPart fixes sides.before middle before_list before
  pub part_after : IsPart fixes sides.after middle after_list after
  pub below : AreBelow fixes sides middle found before.most after.most
  pub among : AreFound fixes sides middle found (take before.to before_list) before.from (take after.to after_list) after.from

pub ready-narrowed : (fixes : List Fix) (sides : Sides) (middle : ℕ × ℕ) (search : Search) (before after : Part) (arms : Arms) (to_before to_after : ℕ)
    → to_before ≡ length search.before.candidates.items → to_after ≡ length search.after.candidates.items → middle.0 < middle.1 → IsNarrowed fixes sides middle search before after arms
    → IsReady fixes sides middle search.best.total search.before.candidates.items search.after.candidates.items (record { from = before.to; to = to_before; most = arms.before.most })
    (record { from = after.to; to = to_after; most = arms.after.most })
ready-narrowed fixes sides middle search before after arms to_before to_after before_is after_is wide is =
    let list_before = search.before.candidates.items in
    let list_after = search.after.candidates.items in
    let P : ℕ → Type 0 = λ to. IsPart fixes sides.before middle list_before (record { from = before.to; to = to; most = arms.before.most }) in
    let Q : ℕ → Type 0 = λ to. IsPart fixes sides.after middle list_after (record { from = after.to; to = to; most = arms.after.most }) in
    let all_before : list_before ≡ take to_before list_before = sym (take_all to_before list_before (omega arith)) in
    let all_after : list_after ≡ take to_after list_after = sym (take_all to_after list_after (omega arith)) in
    record {
      part_before = subst P (sym before_is) is.part_before;
      part_after = subst Q (sym after_is) is.part_after;
      below = is.below;
      among = λ t. (
        subst (λ (list : List Candidate). IsAmong list before.to t.second) all_before (is.found wide t).0,
        subst (λ (list : List Candidate). IsAmong list after.to t.fourth) all_after (is.found wide t).1,
      );
    }

pub ready-half : (fixes : List Fix) (sides : Sides) (middle half : ℕ × ℕ) (found more : ℕ) (old_before new_before old_after new_after : List Candidate) (before after : Part)
    → ((place : ℕ) → IsPlaceOf half place → IsPlaceOf middle place) → found ≤ more → Keeps before old_before new_before → Keeps after old_after new_after
    → IsReady fixes sides middle found old_before old_after before after → IsReady fixes sides half more new_before new_after before after
ready-half fixes sides middle half found more old_before new_before old_after new_after before after inside order keeps_before keeps_after ready = record {
  part_before = part-half fixes sides.before middle half new_before before inside (part-kept fixes sides.before middle old_before new_before before ready.part_before keeps_before);
  part_after = part-half fixes sides.after middle half new_after after inside (part-kept fixes sides.after middle old_after new_after after ready.part_after keeps_after);
  below = below-half fixes sides middle half found more before.most after.most inside order ready.below;
  among = found-half fixes sides middle half found more (take before.to new_before) (take after.to new_after) before.from after.from inside order
      (found-kept fixes sides middle found old_before new_before old_after new_after before after keeps_before keeps_after ready.among);
}

pub keeps-all : (part : Part) (list : List Candidate) → part.to ≤ length list → Keeps part list list
keeps-all part list within = record { longer = within; kept = refl }
