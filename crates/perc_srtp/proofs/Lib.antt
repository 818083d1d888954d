mod Sealing
pub mod Streaming
pub mod PacketLaws
pub mod RtcpLaws
mod RtcpSealing
