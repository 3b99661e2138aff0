-- Where a chunk was not written whole, all before it were, and a prefix of it.
use Rattle.std.proofs.Common.{◌≡◌, ◌∙◌, ◌+◌, ◌∷◌, ◌++◌, [], ℕ, List, Result, Ok, Err, OnErr, take, drop, ap, sym}
use Rattle.std.proofs.Common.{append-nil, append_assoc, take-append-drop}
use Rattle.std.proofs.KnownBytes.{Appends-trans}
use Rattle.std.proofs.lemmas.Grind.{flat_map-append}
use Rattle.std.proofs.lemmas.List.{take_more}
use Rattle.std.specs.Global.{Vec}
use Rattle.kq_merge.specs.Chunks.{text_in}
use Rattle.kq_merge.proofs.report.chunks.TextChunks.write_out.Goals as goal

on_err : {A E : Type 0} (r : Result A E) (P : Type 0) → P → OnErr r P
on_err (Ok x) P p = tt
on_err (Err f) P p = p

text_of : (cs ds : List (Vec ℕ)) → text_in (cs ++ ds) ≡ text_in cs ++ text_in ds
text_of cs ds = flat_map-append (λ (chunk : Vec ℕ). chunk.items) cs ds

regrouped : (before done rest behind : List ℕ) → (before ++ (done ++ rest)) ++ behind ≡ (before ++ done) ++ (rest ++ behind)
regrouped before done rest behind =
    ap (λ l. l ++ behind) (sym (append_assoc before done rest)) ∙ append_assoc (before ++ done) rest behind

-- a text is what stands before a chunk, two parts of the chunk, and what stands behind it
parted : (cs : List (Vec ℕ)) (i : ℕ) (chunk : Vec ℕ) (done rest : List ℕ) → take (i + 1) cs ≡ take i cs ++ chunk ∷ []
    → chunk.items ≡ done ++ rest → text_in cs ≡ (text_in (take i cs) ++ done) ++ (rest ++ text_in (drop (i + 1) cs))
parted cs i chunk done rest more cut =
    ap text_in (sym (take-append-drop (i + 1) cs)) ∙ text_of (take (i + 1) cs) (drop (i + 1) cs)
    ∙ ap (λ l. l ++ text_in (drop (i + 1) cs))
    (ap text_in more ∙ text_of (take i cs) (chunk ∷ []) ∙ ap (λ l. text_in (take i cs) ++ l) (append-nil chunk.items ∙ cut))
    ∙ regrouped (text_in (take i cs)) done rest (text_in (drop (i + 1) cs))

pub returns-in_err-write_out-clause-part : goal.returns-in_err-write_out-clause-part
returns-in_err-write_out-clause-part g c =
    let cs = c.as_slice-chunk-items.result.now in
    let i = c.loop-chunk.chunk-index in
    let (done, rest, cut, appended) = c.in_err-write_out.ensures.part in
    let more = take_more cs i c.chunk-item.result c.loop-chunk-test.true ∙ ap (λ x. take i cs ++ x ∷ []) (sym c.chunk-item.is) in
    on_err c.from_residual.result _ (
      text_in (take i cs) ++ done,
      rest ++ text_in (drop (i + 1) cs),
      sym c.as_slice-chunk-items.ensures ∙ parted cs i c.chunk-item.result done rest more (sym c.as_slice.ensures.value ∙ cut),
      Appends-trans _ _ _ _ _ c.loop-chunk.invariant appended,
    )
