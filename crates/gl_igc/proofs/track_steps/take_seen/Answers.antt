use Rattle.std.proofs.Common.{◌≡◌, ◌∙◌, sym, ap, ℕ, ◌+◌, List, Option, Bool, Some, true, false, subst, arith, rules, ◌<◌, map, [], ◌∷◌, ◌++◌, ℤ}
use Rattle.std.proofs.lemmas.List.{length-map, map-append}
use Rattle.gl_igc.specs.Code.Seconds.{AreOwnSeconds}
use Rattle.gl_igc.specs.Reading.{Sighting}
use Rattle.gl_igc.specs.declared.fix.Fix.{Fix}
use Rattle.gl_igc.proofs.SecondsLemmas.{own-push}
use Rattle.gl_igc.specs.Parts.{IsTrackOf, own_sighting}
use Rattle.gl_igc.specs.Code.Parts.{observation_view}
use Rattle.gl_igc.specs.Recording.{sighting_of}
use Rattle.gl_igc.specs.UsedFixes.{UsedFix, own_second, may_follow, last_own, seconds_limit}
use Rattle.gl_igc.proofs.TrackLemmas.{own-in_range, with_line-left, with_line-used, next_fix, track-excess, track-kept}
use Rattle.gl_igc.proofs.track_steps.take_seen.Goals as goal

-- the test is that of the definition, and so is the own second
test_is : (last last' : Option ℕ) (time own : ℕ) (test : Bool) → last ≡ last' → own ≡ own_second last time → may_follow last own ≡ test → may_follow last' (own_second last' time) ≡ test
test_is last last' time own test same is_own is_test =
    ap (λ (o : ℕ). may_follow last' o) (ap (λ (l : Option ℕ). own_second l time) (sym same) ∙ sym is_own) ∙ ap (λ (l : Option ℕ). may_follow l own) (sym same) ∙ is_test

pub returns-then-not-may_follow : goal.returns-then-not-may_follow
returns-then-not-may_follow c = λ used lines line number of.
    let left = test_is c.args.track.now.last (last_own used) c.args.seen.time c.own_second-own.result false (of.kept c.requires).last c.own_second-own.ensures.value (sym c.may_follow.ensures
    ∙ c.if-not-may_follow.true) in
    subst (λ (after : List UsedFix). IsTrackOf after (lines + 1) c.skip.new.track) (sym (with_line-left line (observation_view c.args.seen) used left)) (c.skip.ensures used lines of)

pub returns-then-len-ge-MOST_FIXES : goal.returns-then-len-ge-MOST_FIXES
returns-then-len-ge-MOST_FIXES c = λ used lines line number of.
    let follows = test_is c.args.track.now.last (last_own used) c.args.seen.time c.own_second-own.result true (of.kept c.requires).last c.own_second-own.ensures.value (sym c.may_follow.ensures
    ∙ c.if-not-may_follow.false) in
    track-excess used _ lines line c.args.number c.args.track.now (next_fix line (observation_view c.args.seen) used) _ (with_line-used line (observation_view c.args.seen) used follows)
    (search rules) number of c.requires (search rules)

in_range : (c : goal.In_ok-push) → c.own_second-own.result < seconds_limit
in_range c =
    own-in_range c.args.track.now.last c.args.seen.time c.own_second-own.result (search rules) c.own_second-own.ensures.value (sym c.may_follow.ensures ∙ c.if-not-may_follow.false)

pub invariant_of-track-2 : goal.invariant_of-track-2
invariant_of-track-2 c =
    let same : map (λ fix. fix.second) c.push.new.self.items ≡ map (λ fix. fix.second) c.args.track.now.fixes.items ++ c.fix_at.result.second ∷ [] =
    ap (map (λ (fix : Fix). fix.second)) c.in_ok-push.ensures.items ∙ map-append (λ (fix : Fix). fix.second) c.args.track.now.fixes.items (c.fix_at.result ∷ []) in
    record {
      own = subst (λ (seconds : List ℤ). AreOwnSeconds seconds (Some c.own_second-own.result)) (sym same)
          (own-push (map (λ fix. fix.second) c.args.track.now.fixes.items) c.args.track.now.last c.own_second-own.result c.fix_at.result.second c.args.track.now.own
          (ap (λ (s : Sighting). s.second) c.fix_at.ensures) (in_range c) (sym c.may_follow.ensures
          ∙ c.if-not-may_follow.false) (omega (arith, length-map c.args.track.now.fixes.items (λ (fix : Fix). fix.second))));
    }

pub returns : goal.returns
returns c = λ used lines line number of.
    let last = (of.kept c.requires).last in
    let follows = test_is c.args.track.now.last (last_own used) c.args.seen.time c.own_second-own.result true last c.own_second-own.ensures.value (sym c.may_follow.ensures
    ∙ c.if-not-may_follow.false) in
    let own : c.own_second-own.result ≡ own_second (last_own used) c.args.seen.time =
    c.own_second-own.ensures.value ∙ ap (λ (l : Option ℕ). own_second l c.args.seen.time) last in
    let same : sighting_of c.fix_at.result ≡ own_sighting (next_fix line (observation_view c.args.seen) used) =
    c.fix_at.ensures ∙ ap (λ (own : ℕ). own_sighting (record { line = line; own = own; seen = observation_view c.args.seen })) own in
    track-kept used _ lines c.own_second-own.result c.args.track.now c.push.new.self (next_fix line (observation_view c.args.seen) used) c.fix_at.result _
    (with_line-used line (observation_view c.args.seen) used follows) same own of c.requires (search rules) c.in_ok-push.ensures.items
