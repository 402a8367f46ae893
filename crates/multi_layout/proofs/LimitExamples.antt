-- The limits on steps, computed on the sample sign.
use Rattle.multi_layout.proofs.Common.{◌≡◌, [], ◌∷◌, map, refl, frame_limit}
use Rattle.sign_font.specs.Sample.{sample}

limits_on_the_sample_sign : map (frame_limit sample) (0 ∷ 1 ∷ 4 ∷ 64 ∷ []) ≡ 18 ∷ 59 ∷ 196 ∷ 2866 ∷ []
limits_on_the_sample_sign = refl
