-- How what is taken of a text grows, line by line and piece by piece.
use Rattle.std.proofs.Common.{◌≡◌, ◌≢◌, ◌∙◌, sym, ap, subst, refl, ℕ, ◌+◌, ◌-◌, ◌<◌, ◌≤◌, ◌⊎◌, inl, inr, ⊎_elim, List, [], ◌∷◌, ◌++◌, append_assoc, append-nil, drop, take, length, get_or, Bool, false, Ok, Err, Result, Vec, arith}
use Rattle.std.specs.Prelude.{OnOk, is_err}
use Rattle.std.specs.declared.alloc.AllocError.{AllocError}
use Rattle.std.specs.declared.alloc.Global.{Global}
use Rattle.std.proofs.lemmas.Bool.{cases_lt}
use Rattle.std.proofs.lemmas.List.{drop_all, take_all, length-append, length-take, take-append-drop, get_or-append-add, get_or-take}
use Rattle.gl_text.specs.Lines.{lines_of}
use Rattle.gl_igc.specs.Pieces.{StandsForText}
use Rattle.gl_igc.specs.Code.Parts.{Takes}
use Rattle.gl_igc.specs.Progress.{StandsFor}
use Rattle.gl_igc.specs.declared.igc_reader.IgcReader.{IgcReader}
use Rattle.gl_igc.specs.declared.progress.Progress.{Progress}

abbrev Texts : Type 0
Texts = List (List ℕ)

-- nothing is taken
pub takes_nothing : (text : List ℕ) (now : Progress) → Takes text text now now
takes_nothing text now = record {
  lines = [];
  cut = λ more. refl;
  taken = λ before stands. subst (λ (lines : Texts). StandsFor lines now) (sym (append-nil before)) stands;
}

-- one line more
pub takes_line : (text : List ℕ) (at next : ℕ) (line : List ℕ) (old mid new : Progress) → Takes text (drop at text) old mid
    → ((more : List ℕ) → lines_of (drop at text ++ more) ≡ line ∷ lines_of (drop next text ++ more)) → ((lines : Texts) → StandsFor lines mid → StandsFor (lines ++ line ∷ []) new)
    → Takes text (drop next text) old new
takes_line text at next line old mid new t ended taken = record {
  lines = t.lines ++ line ∷ [];
  cut = λ more. t.cut more ∙ ap (λ (lines : Texts). t.lines ++ lines) (ended more) ∙ sym (append_assoc t.lines (line ∷ []) (lines_of (drop next text ++ more)));
  taken = λ before stands. subst (λ (lines : Texts). StandsFor lines new) (append_assoc before t.lines (line ∷ [])) (taken (before ++ t.lines) (t.taken before stands));
}

-- a text that was taken whole, and then another one
takes_then : (a b rest : List ℕ) (old mid new : Progress) → Takes a [] old mid → Takes b rest mid new → Takes (a ++ b) rest old new
takes_then a b rest old mid new one two = record {
  lines = one.lines ++ two.lines;
  cut = λ more. ap lines_of (append_assoc a b more) ∙ one.cut (b ++ more) ∙ ap (λ (lines : Texts). one.lines ++ lines) (two.cut more)
      ∙ sym (append_assoc one.lines two.lines (lines_of (rest ++ more)));
  taken = λ before stands. subst (λ (lines : Texts). StandsFor lines new) (append_assoc before one.lines two.lines) (two.taken (before ++ one.lines) (one.taken before stands));
}

first_nil : (xs ys : Texts) → [] ≡ xs ++ ys → xs ≡ []
first_nil [] ys is = refl
first_nil (x ∷ xs) ys is = absurd (cc)

-- an empty text has no line
takes_empty : (rest : List ℕ) (mid new : Progress) → Takes [] rest mid new → (lines : Texts) → StandsFor lines mid → StandsFor lines new
unfolding lines_of
takes_empty rest mid new t lines stands =
    let none : t.lines ≡ [] = first_nil t.lines (lines_of (rest ++ [])) (t.cut []) in
    subst (λ (l : Texts). StandsFor l new) (ap (λ (l : Texts). lines ++ l) none ∙ append-nil lines) (t.taken lines stands)

takes_on : (a rest : List ℕ) (old mid new : Progress) (none : List ℕ) → Takes a rest old mid → Takes [] none mid new → Takes a rest old new
takes_on a rest old mid new none one two = record {
  lines = one.lines;
  cut = one.cut;
  taken = λ before stands. takes_empty none mid new two (before ++ one.lines) (one.taken before stands);
}

-- a piece behind a rest: its front finished a line or was all of it, and the lines of what follows
-- were taken
pub takes_piece : (rest piece begun : List ℕ) (from at : ℕ) (old mid new : Progress) → Takes (rest ++ take from piece) begun old mid → (begun ≡ []) ⊎ (from ≡ length piece)
    → Takes (drop from piece) (drop at (drop from piece)) mid new → Takes (rest ++ piece) (begun ++ drop at (drop from piece)) old new
takes_piece rest piece begun from at old mid new front done back =
    let behind = drop from piece in
    let whole : (rest ++ take from piece) ++ behind ≡ rest ++ piece = append_assoc rest (take from piece) behind ∙ ap (λ (t : List ℕ). rest ++ t) (take-append-drop from piece) in
    ⊎_elim
    (λ (none : begun ≡ []).
    let joined : Takes ((rest ++ take from piece) ++ behind) (drop at behind) old new =
    takes_then (rest ++ take from piece) behind (drop at behind) old mid new (subst (λ (b : List ℕ). Takes (rest ++ take from piece) b old mid) none front) back in
    subst (λ (b : List ℕ). Takes (rest ++ piece) (b ++ drop at behind) old new) (sym none) (subst (λ (t : List ℕ). Takes t (drop at behind) old new) whole joined))
    (λ (all : from ≡ length piece).
    let nothing : behind ≡ [] = drop_all from piece (omega (arith, all)) in
    let taken : take from piece ≡ piece = take_all from piece (omega (arith, all)) in
    let left : begun ++ drop at behind ≡ begun = ap (λ (b : List ℕ). begun ++ drop at b) nothing ∙ ap (λ (b : List ℕ). begun ++ b) (drop_all at [] (omega arith)) ∙ append-nil begun in
    let kept : Takes (rest ++ piece) begun old mid = subst (λ (t : List ℕ). Takes (rest ++ t) begun old mid) taken front in
    let none : Takes [] (drop at []) mid new = subst (λ (b : List ℕ). Takes b (drop at b) mid new) nothing back in
    subst (λ (b : List ℕ). Takes (rest ++ piece) b old new) (sym left) (takes_on (rest ++ piece) begun old mid new (drop at []) kept none))
    done

-- a text that an LF ends, behind whose last line no LF is left, was taken whole
pub all_taken : (text : List ℕ) (at : ℕ) → at ≤ length text → ((k : ℕ) → at ≤ k → k < length text → get_or text k 0 ≢ 10) → get_or text (length text - 1) 0 ≡ 10 → drop at text ≡ []
all_taken text at within none feed =
    drop_all at text (elim (cases_lt at (length text)) [
      | inl below ↦ absurd (none (length text - 1) (omega (arith, below)) (omega (arith, below)) feed)
      | inr over ↦ over
    ])

-- the last byte of a text and a front of a piece is that of the front
pub last_joined : (rest piece : List ℕ) (n : ℕ) → 0 < n → n ≤ length piece → get_or piece (n - 1) 0 ≡ 10 → get_or (rest ++ take n piece) (length (rest ++ take n piece) - 1) 0 ≡ 10
last_joined rest piece n some within feed =
    let short : length (take n piece) ≡ n = omega (arith, length-take n piece, within) in
    let place : length (rest ++ take n piece) - 1 ≡ length rest + (n - 1) = omega (arith, length-append rest (take n piece), short, some) in
    ap (λ (k : ℕ). get_or (rest ++ take n piece) k 0) place ∙ get_or-append-add rest (take n piece) (n - 1) 0 ∙ get_or-take n piece (n - 1) 0 (omega (arith, some)) ∙ feed

-- what a piece that was taken gives, where that it was taken is what is kept
pub fed : {P Q : Type 0} (result : Result (Unit {0}) AllocError) (failed : Bool) → failed ≡ is_err result → OnOk result P → (P → failed ≡ false → Q) → OnOk result Q
fed (Ok x) failed is on then = then on is
fed (Err e) failed is on then = tt

-- the reader's text grows by a piece
pub text_grows : (text piece : List ℕ) (reader : IgcReader) (progress : Progress) (rest : Vec ℕ Global) (failed : Bool) → Takes (reader.rest.items ++ piece) rest.items reader.progress progress
    → failed ≡ false → StandsForText text reader → StandsForText (text ++ piece) (record { progress = progress; rest = rest; task_day = reader.task_day; has_failed = failed })
text_grows text piece reader progress rest failed t whole stands = record {
  lines = stands.lines ++ t.lines;
  read = t.taken stands.lines stands.read;
  cut = λ more.
      ap lines_of (append_assoc text piece more) ∙ stands.cut (piece ++ more) ∙ ap (λ (tail : List ℕ). stands.lines ++ lines_of tail) (sym (append_assoc reader.rest.items piece more))
      ∙ ap (λ (lines : Texts). stands.lines ++ lines) (t.cut more) ∙ sym (append_assoc stands.lines t.lines (lines_of (rest.items ++ more)));
  whole = whole;
}

-- the lines of the text are those that were taken and those of the rest
pub all_lines : (text : List ℕ) (reader : IgcReader) (stands : StandsForText text reader) → stands.lines ++ lines_of reader.rest.items ≡ lines_of text
all_lines text reader stands =
    ap (λ (tail : List ℕ). stands.lines ++ lines_of tail) (sym (append-nil reader.rest.items)) ∙ sym (stands.cut []) ∙ ap lines_of (append-nil text)
