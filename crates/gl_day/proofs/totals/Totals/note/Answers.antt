use Rattle.std.proofs.Common.{refl, inl, inr}
use Rattle.gl_proof.specs.Claim.{statement_of}
use Rattle.gl_day.specs.Totals.{is_distance, is_free, is_triangle}
use Rattle.gl_day.proofs.Totalled.{total_kept, total_taken}
use Rattle.gl_day.proofs.totals.Totals.note.Goals as goal

pub returns-in-Area : goal.returns-in-Area
returns-in-Area c statements are =
    let claim = statement_of c.args.claim.now in
    elim c.in-Area.is [
      | inl is ↦ record {
        distance = total_taken is_distance statements claim _ _ (rw is refl) are.distance c.or-self.ensures;
        free = total_kept is_free statements claim _ (rw is refl) are.free;
        triangle = total_kept is_triangle statements claim _ (rw is refl) are.triangle;
      }
      | inr is ↦ record {
        distance = total_taken is_distance statements claim _ _ (rw is refl) are.distance c.or-self.ensures;
        free = total_kept is_free statements claim _ (rw is refl) are.free;
        triangle = total_kept is_triangle statements claim _ (rw is refl) are.triangle;
      }
    ]

pub returns-in-Free : goal.returns-in-Free
returns-in-Free c statements are = record {
  distance = total_kept is_distance statements (statement_of c.args.claim.now) _ (rw c.in-Free.is refl) are.distance;
  free = total_taken is_free statements (statement_of c.args.claim.now) _ _ (rw c.in-Free.is refl) are.free c.or-self-in-Free.ensures;
  triangle = total_kept is_triangle statements (statement_of c.args.claim.now) _ (rw c.in-Free.is refl) are.triangle;
}

pub returns-in-Triangle : goal.returns-in-Triangle
returns-in-Triangle c statements are = record {
  distance = total_kept is_distance statements (statement_of c.args.claim.now) _ (rw c.in-Triangle.is refl) are.distance;
  free = total_kept is_free statements (statement_of c.args.claim.now) _ (rw c.in-Triangle.is refl) are.free;
  triangle = total_taken is_triangle statements (statement_of c.args.claim.now) _ _ (rw c.in-Triangle.is refl) are.triangle c.or-self-in-Triangle.ensures;
}
