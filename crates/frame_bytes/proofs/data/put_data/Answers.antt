-- `frame_bytes::data::put_data`: a payload, and decoded data.
use Rattle.std.proofs.Common.{arith}
use Rattle.frame_bytes.proofs.FrameLaws.{data_size_is, data_told}
use Rattle.frame_bytes.proofs.data.put_data.Goals as goal

pub put_payload-requires : goal.put_payload-requires
put_payload-requires c = omega (arith, data_size_is c.args.input.now c.in-Payload.is)

pub put_decoded_data-requires : goal.put_decoded_data-requires
put_decoded_data-requires c = omega (arith, data_size_is c.args.input.now c.in-Decoded.is)

pub returns-in-Payload : goal.returns-in-Payload
returns-in-Payload c = data_told c.args.input.now c.in-Payload.is c.put_payload.ensures

pub returns-in-Decoded : goal.returns-in-Decoded
returns-in-Decoded c = data_told c.args.input.now c.in-Decoded.is c.put_decoded_data.ensures
