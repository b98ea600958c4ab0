use Rattle.model.specs.Bytes.{bytes16}
use Rattle.std.proofs.Common.{◌∙◌, refl}
use Rattle.codec.proofs.Writes.{put_bytes, bytes_16}
use Rattle.codec.proofs.bytes.write16.Goals as goal

pub returns : goal.returns
unfolding bytes16
returns c = put_bytes _ _ _ _ _ (c.copy_from_slice.ensures.after ∙ (c.to_le_bytes.ensures ∙ bytes_16 c.args.x)) refl
