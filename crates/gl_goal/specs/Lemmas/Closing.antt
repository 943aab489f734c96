-- The test that a flight closes past two of its places says what it is to close there.
use Rattle.std.proofs.Common.{◌≡◌, ◌∙◌, ap, sym, ℕ, ◌+◌, ◌-◌, ◌<◌, ◌≤◌, List, length, get_or, take, drop, Some, arith}
use Rattle.std.specs.Prelude.{IsTrue, nat_le}
use Rattle.std.specs.List.{list_any}
use Rattle.std.proofs.lemmas.List.{get_or-drop, get_or-take, length-drop, length-take}
use Rattle.std.proofs.lemmas.List.Folds.{Any-from_list_any, list_any_at}
use Rattle.std.proofs.lemmas.Bool.{leb-true, le-leb}
use Rattle.std.proofs.lemmas.Option.{get_or_from_slice_get, slice_get-get_or, slice_get_within}
use Rattle.gl_igc.specs.declared.fix.Fix.{Fix}
use Rattle.gl_sphere.specs.Distance.{distance}
use Rattle.gl_goal.specs.Reach.{Closes}
use Rattle.gl_goal.specs.Triangle.{closes}

-- where the test passes there are two fixes that are near enough
pub closes-found : (fixes : List Fix) (closing a c : ℕ) → IsTrue (closes fixes closing a c)
    → Closes fixes closing a c
unfolding closes
closes-found fixes closing a c is =
    let outer = Any-from_list_any
    (λ (from : Fix). list_any (λ (to : Fix). nat_le (distance from.at to.at) closing)
    (drop c fixes)) (take (a + 1) fixes) is in
    let start = outer.1 in
    let inner = Any-from_list_any (λ (to : Fix). nat_le (distance start.at to.at) closing)
    (drop c fixes) outer.4 in
    let finish = inner.1 in
    let early : outer.0 < a + 1 = omega (arith, outer.2, length-take (a + 1) fixes) in
    let inside : outer.0 < length fixes = omega (arith, outer.2, length-take (a + 1) fixes) in
    let late : c + inner.0 < length fixes = omega (arith, inner.2, length-drop c fixes) in
    record {
      from = outer.0;
      to = c + inner.0;
      start = start;
      finish = finish;
      start_is = slice_get-get_or fixes outer.0 start inside
          ∙ ap Some (sym (get_or-take (a + 1) fixes outer.0 start early) ∙ outer.3);
      finish_is = slice_get-get_or fixes (c + inner.0) finish late
          ∙ ap Some (sym (get_or-drop c fixes inner.0 finish) ∙ inner.3);
      from_in = omega arith;
      to_in = omega arith;
      near = leb-true (distance start.at finish.at) closing inner.4;
    }

-- and only there
pub closes-shown : (fixes : List Fix) (closing a c : ℕ) → Closes fixes closing a c
    → IsTrue (closes fixes closing a c)
unfolding closes
closes-shown fixes closing a c is =
    let inside = slice_get_within fixes is.from is.start is.start_is in
    let late = slice_get_within fixes is.to is.finish is.finish_is in
    let start : get_or (take (a + 1) fixes) is.from is.start ≡ is.start =
    get_or-take (a + 1) fixes is.from is.start (omega (arith, is.from_in))
    ∙ get_or_from_slice_get fixes is.from is.start is.start is.start_is in
    let place : c + (is.to - c) ≡ is.to = omega (arith, is.to_in) in
    let finish : get_or (drop c fixes) (is.to - c) is.finish ≡ is.finish =
    get_or-drop c fixes (is.to - c) is.finish ∙ ap (λ k. get_or fixes k is.finish) place
    ∙ get_or_from_slice_get fixes is.to is.finish is.finish is.finish_is in
    let near : (from to : Fix) → from ≡ is.start → to ≡ is.finish
    → IsTrue (nat_le (distance from.at to.at) closing) =
    λ from to from_is to_is. (λ i. nat_le (distance (from_is i).at (to_is i).at) closing)
    ∙ le-leb (distance is.start.at is.finish.at) closing is.near in
    list_any_at _ (take (a + 1) fixes) is.from is.start
    (omega (arith, length-take (a + 1) fixes, inside, is.from_in))
    (list_any_at _ (drop c fixes) (is.to - c) is.finish
    (omega (arith, length-drop c fixes, late, is.to_in)) (near _ _ start finish))

-- a flight that closes past two places closes past a later first and an earlier second one
pub closes-wider : (fixes : List Fix) (closing a b c d : ℕ) → a ≤ b → d ≤ c
    → IsTrue (closes fixes closing a c) → IsTrue (closes fixes closing b d)
closes-wider fixes closing a b c d later earlier is =
    let found = closes-found fixes closing a c is in
    closes-shown fixes closing b d (record {
      from = found.from;
      to = found.to;
      start = found.start;
      finish = found.finish;
      start_is = found.start_is;
      finish_is = found.finish_is;
      from_in = omega (arith, found.from_in, later);
      to_in = omega (arith, found.to_in, earlier);
      near = found.near;
    })
