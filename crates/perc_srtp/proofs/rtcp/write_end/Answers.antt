use Rattle.byteorder.specs.Endian.{big_bytes}
use Rattle.perc_srtp.proofs.RtcpSealing.{end_written}
use Rattle.perc_srtp.proofs.rtcp.write_end.Goals as goal

pub returns : goal.returns
returns c =
    end_written c.copy_from_slice.new.self c.args.tag.now (big_bytes 4 c.args.word) c.args.out.now c.write_u32.new.buf c.copy_from_slice.ensures.after c.told-tag c.write_u32.ensures
