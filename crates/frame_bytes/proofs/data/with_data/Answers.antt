-- `frame_bytes::data::with_data`: with a payload, and with decoded data.
use Rattle.std.proofs.Common.{arith}
use Rattle.frame_bytes.proofs.FrameLaws.{data_size_is}
use Rattle.frame_bytes.proofs.data.with_data.Goals as goal

pub returns-in-Payload : goal.returns-in-Payload
returns-in-Payload c = omega (arith, c.with_payload.ensures, data_size_is c.args.input.now c.in-Payload.is)

pub returns-in-Decoded : goal.returns-in-Decoded
returns-in-Decoded c = omega (arith, c.with_decoded.ensures, data_size_is c.args.input.now c.in-Decoded.is)
