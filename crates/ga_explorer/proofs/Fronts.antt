-- From the text that is read to a machine that is opened on it.
use Rattle.std.proofs.Common.{◌≡◌, Option, Some, None, ℕ, ◌<◌, inl, inr, List, [], ◌∷◌, ◌++◌, length, true, false, refl, arith, Result, Ok, Err}
use Rattle.ga_image.proofs.Room.{short_image}
use Rattle.ga_image.specs.declared.fault.ImageFault.{ImageFault}
use Rattle.ga_text.specs.Input.{input_limit, UnreadInput}
use Rattle.ga_text.specs.Image.{HasNoEndLine}
use Rattle.ga_console.specs.Run.{ReadsOnlyImage}
use Rattle.ga_console.specs.declared.run.Status.{Status}
use Rattle.ga_explorer.specs.Opening.{ExplorerState, begins_as_image, is_read_as_image, OpensExplorer, OpensTextBeforeCommands, IsTextBeforeCommands, IsRefusedImage, IsSessionOpenResult}
use Rattle.ga_explorer.specs.Opening.IsUnopenedSession.{image_refused, source_refused}
use Rattle.ga_explorer.specs.inner.{IsExplorerOpenResult, IsOpenedImageFault}
use Rattle.ga_explorer.specs.declared.opening.OpenError.TheVariants.{Image, Source}

refused_image : (chip : Option (List ℕ)) (image ahead rest : List ℕ) (fault : ImageFault) → ReadsOnlyImage image ahead rest → IsOpenedImageFault chip image fault
    → IsRefusedImage chip (image ++ ahead) rest fault
refused_image None image ahead rest fault part (is, inl e) = inl e
refused_image None image ahead rest fault part (is, inr e) = inr (record { image = image; ahead = ahead; splits = refl; part = part; faulty = e }, is)
refused_image (Some given) image ahead rest fault part e = inr (record { source = image; ahead = ahead; splits = refl; part = part; is_source = refl }, e)

-- of a text that was read whole
pub begun_after : (chip : Option (List ℕ)) (limit : ℕ) (left text : List ℕ) (input : UnreadInput) (rest written : List ℕ) (result : Result ExplorerState Status) → left ≡ text ++ (input.bytes ++ rest)
    → left ≡ (text ++ input.bytes) ++ rest → input.taken ≡ length text → IsTextBeforeCommands text (input.bytes ++ rest) → ReadsOnlyImage text input.bytes rest
    → IsExplorerOpenResult chip limit text written result → IsSessionOpenResult chip limit left input rest written result
begun_after chip limit left text input rest written (Ok begun) split whole taken front alone opened = (opened.0, text, split, taken, front, opened.1)
begun_after chip limit left text input rest written (Err status) split whole taken front alone (Image fault, why, declined) =
    (text ++ input.bytes, whole, image_refused fault (refused_image chip text input.bytes rest fault alone why) declined)
begun_after chip limit left text input rest written (Err status) split whole taken front alone (Source, why, declined) =
    (text ++ input.bytes, whole, source_refused (record { source = text; ahead = input.bytes; splits = refl; part = alone; is_source = why }) declined.0 declined.1)

not_both : (text : List ℕ) → begins_as_image text ≡ true → begins_as_image text ≡ false → ⊥
not_both text is other = cc

too_long : (limit : ℕ) (text : List ℕ) (begun : ExplorerState) → length text ≡ input_limit → begins_as_image text ≡ true → OpensExplorer text limit begun → ⊥
too_long limit text begun full is (inl opens) =
    let short : length text < 16777216 = short_image text opens.1.opens.0 opens.1.opens.1 in omega arith
too_long limit text begun full is (inr opens) = not_both text is opens.0

-- it is source, and no image
no_image : (chip : Option (List ℕ)) (text : List ℕ) → is_read_as_image chip text ≡ true → is_read_as_image chip text ≡ false → ⊥
no_image chip text is other = cc

not_so_long : (chip : Option (List ℕ)) (limit : ℕ) (text : List ℕ) (begun : ExplorerState) → length text ≡ input_limit → is_read_as_image chip text ≡ true → OpensTextBeforeCommands chip text limit begun → ⊥
not_so_long None limit text begun full is opens = too_long limit text begun full is opens
not_so_long (Some given) limit text begun full is opens = absurd (cc)

-- No image that is accepted reaches the bound of the input.
pub begun_full : (chip : Option (List ℕ)) (limit byte : ℕ) (left text : List ℕ) (input : UnreadInput) (rest written : List ℕ) (result : Result ExplorerState Status) → left ≡ (text ++ byte ∷ []) ++ rest
    → length text ≡ input_limit → HasNoEndLine text → is_read_as_image chip text ≡ true → IsExplorerOpenResult chip limit text written result → IsSessionOpenResult chip limit left input rest written result
begun_full chip limit byte left text input rest written (Ok begun) whole full none is opened = absurd (not_so_long chip limit text begun full is opened.1)
begun_full chip limit byte left text input rest written (Err status) whole full none is (Image fault, why, declined) =
    (text ++ byte ∷ [], whole, image_refused fault (refused_image chip text (byte ∷ []) rest fault (inr (inr (full, refl, none))) why) declined)
begun_full chip limit byte left text input rest written (Err status) whole full none is (Source, why, declined) = absurd (no_image chip text is why)
