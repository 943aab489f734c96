-- What an open file of the system has from a place on is what it has left after it went there.
use Rattle.std.proofs.Common.{◌≡◌, ◌∙◌, ◌≤◌, ◌<◌, ◌-◌, ◌+◌, ℕ, List, [], ◌++◌, length, take, drop, Option, None, Some, Result, Ok, Err, IfOk, IfSome, refl, sym, ap, arith, length-append, length-drop}
use Rattle.std.specs.Prelude.{IsSome, ◌↔◌}
use Rattle.std.specs.Io.KnownBytes.{Consumes, IsAtEnd, Keeps, ReadConsumes}
use Rattle.std.proofs.lemmas.List.{length-take-le, take-append-le, take_all}
use Rattle.gl_desk.specs.Desk.{ReadsFrom}
use Rattle.gl_desk.specs.HostDesk.{HaveTheRestLeft, IsReadAt}

told : {P : Type 0} (a : Option ℕ) → IfSome a (λ _. P) → IsSome a → P
told None holds some = cc
told (Some n) holds some = holds

kept : (a b : Option (List ℕ)) (file : List ℕ) → Keeps a b → a ≡ Some file → b ≡ Some file
kept None b file keeps same = cc
kept (Some xs) None file keeps same = absurd keeps
kept (Some xs) (Some ys) file keeps same = ap Some keeps ∙ same

front : (n : ℕ) (buffer ys : List ℕ) → n ≤ length buffer → take n (take n buffer ++ ys) ≡ take n buffer
front n buffer ys within =
    let long : length (take n buffer) ≡ n = length-take-le n buffer within in
    let first : n ≤ length (take n buffer) = omega (arith, long) in
    let all : length (take n buffer) ≤ n = omega (arith, long) in
    take-append-le n (take n buffer) ys first ∙ take_all n (take n buffer) all

counted : (file buffer ys : List ℕ) (at n : ℕ) → drop at file ≡ take n buffer ++ ys → n ≤ length buffer → length file - at ≡ n + length ys
counted file buffer ys at n split within =
    sym (length-drop at file) ∙ ap length split ∙ length-append (take n buffer) ys ∙ ap (λ (k : ℕ). k + length ys) (length-take-le n buffer within)

at_end : (file ys : List ℕ) (at n : ℕ) → length file - at ≡ n + length ys → n ≡ 0 → ys ≡ [] → length file ≤ at
at_end file ys at n long none nothing =
    let empty : length ys ≡ 0 = ap length nothing in
    omega (arith, long, none, empty)

parts : (file buffer ys : List ℕ) (at n : ℕ) → drop at file ≡ take n buffer ++ ys → n ≤ length buffer
    → (n ≡ 0 → 0 < length buffer → ys ≡ []) → ReadsFrom file at buffer n
parts file buffer ys at n split within end =
    let long : length file - at ≡ n + length ys = counted file buffer ys at n split within in
    record {
      bytes = rw split (sym (front n buffer ys within));
      within = omega (arith, long);
      end = λ room. (λ none. at_end file ys at n long none (end none room), λ past. omega (arith, long));
    }

reads : (file buffer : List ℕ) (at n : ℕ) (a rest : Option (List ℕ)) → a ≡ Some (drop at file) → n ≤ length buffer
    → Consumes a rest (take n buffer) → (n ≡ 0 → 0 < length buffer → IsAtEnd rest) → ReadsFrom file at buffer n
reads file buffer at n None rest is within consumes end = cc
reads file buffer at n (Some xs) None is within consumes end = absurd consumes
reads file buffer at n (Some xs) (Some ys) is within consumes end =
    let same : drop at file ≡ xs = cc in
    parts file buffer ys at n (same ∙ consumes) within end

-- a file that went to a place and was read there was read from that place
pub read_at_place : {F E : Type 0} (place : F → Option ℕ) (bytes left : F → Option (List ℕ)) (opened sought : F) (rest : Option (List ℕ)) (at : ℕ) (buffer : List ℕ) (r : Result ℕ E)
    → IfSome (place opened) (λ _. place sought ≡ Some at) → Keeps (bytes opened) (bytes sought)
    → IfOk r (λ n. n ≤ length buffer) → ReadConsumes (left sought) rest r buffer
    → IfOk r (IsReadAt place bytes left opened at buffer)
read_at_place place bytes left opened sought rest at buffer (Err e) stands keeps within read = tt
read_at_place place bytes left opened sought rest at buffer (Ok n) stands keeps within read = λ have file tells same.
    reads file buffer at n (left sought) rest (have sought at file (told (place opened) stands tells) (kept (bytes opened) (bytes sought) file keeps same)) within read.0 read.1
