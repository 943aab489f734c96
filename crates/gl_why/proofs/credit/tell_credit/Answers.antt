use Rattle.std.proofs.Common.{◌≡◌, ◌∙◌, [], ◌∷◌, ◌+◌, ℕ, List, Option, append-nil, get_or, refl, subst, sym}
use Rattle.std.specs.Prelude.{MatchOption}
use Rattle.std.proofs.lemmas.Option.{slice_get-get_or}
use Rattle.gl_why.specs.declared.fact.Fact.{Fact}
use Rattle.gl_why.specs.declared.fact.Fact.TheVariants.{Credited}
use Rattle.gl_why.specs.declared.spot.Spot.{Spot}
use Rattle.gl_why.proofs.credit.tell_credit.Goals as goal

pub returns-in-None : goal.returns-in-None
returns-in-None c =
    let nothing : List Fact = [] in
    let told : Spot → Type 0 = λ (at : Spot). nothing ≡ Credited (record { place = c.args.k + 1; at = at }) ∷ [] in (
      nothing,
      (
        get_or c.args.choice.now c.args.k 0,
        slice_get-get_or c.args.choice.now c.args.k 0 c.requires,
        subst (λ (o : Option Spot). MatchOption o (nothing ≡ []) told) (sym c.in-None.is ∙ c.spot_at.ensures) refl,
      ),
      sym (append-nil c.args.lines.now),
    )
