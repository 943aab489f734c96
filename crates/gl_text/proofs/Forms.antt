-- Names of files have no LF.
use Rattle.std.proofs.Common.{◌≡◌, ℕ, Bool, true, not, ◌==◌, List, arith}
use Rattle.std.specs.Prelude.{codes}
use Rattle.std.specs.List.{list_all}
use Rattle.std.specs.Cmp.{first_so, second_so}
use Rattle.std.proofs.lemmas.List.Sums.{AllPass-from_list_all, list_all-from_AllPass}
use Rattle.std.proofs.lemmas.List.Elements.{All-weaker}
use Rattle.gl_text.specs.Forms.{is_file_name, is_in_file_name, is_text}

-- the byte isn't LF
abbrev pub is_inside : ℕ → Bool
is_inside b = not (b == 10)

-- no byte of the text is LF
abbrev pub is_unbroken : List ℕ → Bool
is_unbroken text = list_all is_inside text

-- nor is a byte of a name
is_inside-name_byte : (b : ℕ) → is_in_file_name b ≡ true → is_inside b ≡ true
is_inside-name_byte b named = grind arith

-- a file's name has no LF
pub is_unbroken-file : (file : List ℕ) → is_file_name file ≡ true → is_unbroken file ≡ true
unfolding is_file_name
is_unbroken-file file named =
    let but_folder = first_so _ (not (is_text file (codes ".."))) named in
    let but_own = first_so _ (not (is_text file (codes "."))) but_folder in
    let bytes : list_all is_in_file_name file ≡ true = second_so _ _ but_own in
    list_all-from_AllPass is_inside file (All-weaker (λ b. is_in_file_name b ≡ true) (λ b. is_inside b ≡ true) is_inside-name_byte file (AllPass-from_list_all is_in_file_name file bytes))
