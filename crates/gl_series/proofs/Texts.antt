-- The text of one record, and of one more.
use Rattle.std.proofs.Common.{◌≡◌, ◌≢◌, sym, ap, ◌∙◌, ℕ, ◌+◌, ◌<◌, List, [], ◌∷◌, ◌++◌, length, map, take, get_or}
use Rattle.std.proofs.lemmas.List.{append-nil}
use Rattle.std.proofs.lemmas.List.Concat.{flat_map-append}
use Rattle.csv.specs.Writing.{default_writer, row_text}
use Rattle.csv.specs.declared.writer.QuoteStyle.TheVariants as style
use Rattle.csv.specs.declared.writer.WriterBuilder.{WriterBuilder}
use Rattle.gl_series.specs.StandingText.{records_text}
use Rattle.gl_series.proofs.LastRows.{map_more}

pub text_more : {X : Type 0} (head : List (List ℕ)) (fields : X → List (List ℕ)) (items : List X) (i : ℕ) (item : X) → i < length items → item ≡ get_or items i item
    → records_text (head ∷ map fields (take (i + 1) items)) ≡ records_text (head ∷ map fields (take i items)) ++ row_text default_writer (fields item)
text_more head fields items i item within at =
    let front = map fields (take i items) in
    ap (λ rest. records_text (head ∷ rest)) (map_more fields items i item within at)
    ∙ flat_map-append (row_text default_writer) (head ∷ front) (fields item ∷ [])
    ∙ ap (λ t. records_text (head ∷ front) ++ t) (append-nil (row_text default_writer (fields item)))

-- a writer with the default setup, under which nothing stands yet, writes one record
pub not_numeric : (cfg : WriterBuilder) → cfg ≡ default_writer → cfg.style ≢ style.NonNumeric
not_numeric cfg is = λ numeric.
    let clash : style.Necessary ≡ style.NonNumeric = (λ i. (sym is i).style) ∙ numeric in
    cc

pub row_written : (cfg : WriterBuilder) (before pending after : List ℕ) (fields : List (List ℕ)) → cfg ≡ default_writer → before ≡ [] → pending ≡ [] → after ≡ (before ++ pending) ++ row_text cfg fields
    → after ≡ row_text default_writer fields
row_written cfg before pending after fields setup nothing none is = is ∙ (λ i. (nothing i ++ none i) ++ row_text (setup i) fields)
