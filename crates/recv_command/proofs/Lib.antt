mod Saying
mod Showing
mod WrittenSoFar
mod Joined
mod Followed
mod FollowedJoined
