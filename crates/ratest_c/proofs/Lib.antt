mod FrameLemmas
mod ReplyLemmas
mod RunLemmas
