use Rattle.std.proofs.Common.{List, ℕ, [], Some, inl, inr, refl, sym, ap, ◌∙◌, subst}
use Rattle.std.proofs.lemmas.List.{append-nil}
use Rattle.ga_debug_info.specs.Faults.{out_of_memory_text, input_too_long_text}
use Rattle.ga_asm_text.specs.inner.{WritesAssemblyJsonAfterRead}
use Rattle.ga_asm_text.proofs.JsonSources.{assembles_as_json, unread_as_json}
use Rattle.ga_asm_text.proofs.assembly_json.assemble_objects.Goals as goal

pub returns-in-Whole : goal.returns-in-Whole
returns-in-Whole g c = λ left before known held.
    let got = c.in-Whole.ensures left known in
    let done = c.tell_source.ensures before held in
    let file : List ℕ = c.args.file.now in
    let P : List ℕ → Type 0 = λ source. WritesAssemblyJsonAfterRead file source done.0 c.tell_source.result in (
      got.0,
      got.1,
      done.0,
      got.2,
      got.3,
      done.1,
      assembles_as_json file c.in-Whole.source.items got.4.0 got.0 got.1 done.0 c.tell_source.result got.4.1 got.4.2 (subst P c.as_slice.ensures.value done.2),
    )

pub returns-in-TooLong : goal.returns-in-TooLong
returns-in-TooLong g c = λ left before known held.
    let got = c.in-TooLong.ensures left known in
    let sent = c.tell_refused.ensures before held in
    (got.0, got.1, sent.0, got.2, got.3, sent.1, unread_as_json c.args.file.now input_too_long_text got.0 got.1 sent.0 c.tell_refused.result (inr refl) sent.2)

pub returns-in-ReadFailed : goal.returns-in-ReadFailed
returns-in-ReadFailed g c = λ left before known held.
    let got = c.in-ReadFailed.ensures left known in
    (got.0, got.1, [], got.2, got.3, held ∙ ap Some (sym (append-nil before)), inl (refl, got.4))

pub returns : goal.returns
returns g c = λ left before known held.
    let got = c.in-NoMemory.ensures left known in
    let sent = c.tell_refused-in-NoMemory.ensures before held in
    (got.0, got.1, sent.0, got.2, got.3, sent.1, unread_as_json c.args.file.now out_of_memory_text got.0 got.1 sent.0 c.tell_refused-in-NoMemory.result (inl refl) sent.2)
