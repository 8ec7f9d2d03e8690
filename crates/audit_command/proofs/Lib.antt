mod Followed
