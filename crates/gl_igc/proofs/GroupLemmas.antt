-- Groups of an I line, read one by one.
use Rattle.std.proofs.Common.{◌≡◌, ap, ℕ, suc, ◌<◌, List, ◌∷◌, length, drop, Bool, true, false, Option, None, Some, arith, refl, leb, cond}
use Rattle.std.specs.Prelude.{option_map, codes}
use Rattle.std.specs.Option.{option_or}
use Rattle.std.proofs.lemmas.Bool.Decides.{nat_tests}
use Rattle.gl_igc.specs.Extension.{Span, Group, Extension, span_of, group_of, groups_of}
use Rattle.gl_igc.specs.Code.Parts.{with_group, span_if}
use Rattle.std.specs.Prelude.{nat_eq}
use Rattle.std.specs.List.{starts_with}
use Rattle.gl_text.specs.Digits.{◌>>=◌}

-- some fields, and those of groups that follow where they are wanting
abbrev pub with_groups : Extension → List Group → Extension
with_groups fields groups = record {
  lad = option_or fields.lad (span_of (codes "LAD") groups);
  lod = option_or fields.lod (span_of (codes "LOD") groups);
  enl = option_or fields.enl (span_of (codes "ENL") groups);
}

or_group : (code : List ℕ) (first : Option Span) (group : Group) (groups : List Group)
    → option_or first (span_of code (group ∷ groups)) ≡ option_or (option_or first (span_if code group)) (span_of code groups)
or_group code (Some span) group groups = refl
or_group code None group groups = tested (starts_with nat_eq group.code code)
  where
    tested : (b : Bool) → cond b (Some group.span) (span_of code groups) ≡ option_or (cond b (Some group.span) None) (span_of code groups)
    tested true = refl
    tested false = refl

with_groups-cons : (fields : Extension) (group : Group) (groups : List Group) → with_groups fields (group ∷ groups) ≡ with_groups (with_group fields group) groups
with_groups-cons fields group groups =
    rw (or_group (codes "LAD") fields.lad group groups, or_group (codes "LOD") fields.lod group groups, or_group (codes "ENL") fields.enl group groups) refl

-- one group more
pub groups-more : (fields : Extension) (n m : ℕ) (text : List ℕ) (group : Group) → n ≡ suc m → group_of text ≡ Some group
    → option_map (with_groups fields) (groups_of n text) ≡ option_map (with_groups (with_group fields group)) (groups_of m (drop 7 text))
groups-more fields n m text group more reads = rw (more, reads) (rest (groups_of m (drop 7 text)))
  where
    rest : (groups : Option (List Group)) → option_map (with_groups fields) (groups >>= λ groups. Some (group ∷ groups)) ≡ option_map (with_groups (with_group fields group)) groups
    rest None = refl
    rest (Some groups) = ap Some (with_groups-cons fields group groups)

-- a group doesn't read
pub groups-stop : (fields : Extension) (n m : ℕ) (text : List ℕ) → n ≡ suc m → group_of text ≡ None → option_map (with_groups fields) (groups_of n text) ≡ None
groups-stop fields n m text more damaged = rw (more, damaged) refl

-- a group is cut
pub group_of-cut : (text : List ℕ) → length text < 7 → group_of text ≡ None
unfolding group_of
group_of-cut text cut =
    let test : leb 7 (length text) ≡ false = grind (arith, nat_tests) in
    rw test refl
